-- The text that a verbatim field is related to is the one that is read.
use Rattle.std.proofs.Common.{◌≡◌, ℕ, Bool, true, false, ◌||◌, eqb, List, [], ◌∷◌, refl, sym, ap, ◌∙◌, subst, arith}
use Rattle.std.proofs.lemmas.Bool.{eqb-true, or_parts, or_from}
use Rattle.std.proofs.lemmas.Bool.Decides.{nat_tests}
use Rattle.laws.specs.Characters.{number_sign, dollar_sign, percent_sign, ampersand, backslash, circumflex, underscore, open_brace, close_brace, tilde}
use Rattle.laws.specs.Runs.{Bars}
use Rattle.biblatex_content.specs.Verbatim as read
use Rattle.biblatex_content.specs.Verbatim.{verbatim_from, verbatim_text}
use Rattle.biblatex_readings_grammar.specs.Characters.{is_escapable, is_brace}
use Rattle.biblatex_readings_grammar.specs.Verbatim.{IsVerbatim, nothing, escaped, brace, lone_backslash, itself}

-- ---- a character by itself

-- the same characters are escaped
same_escaped : (c : ℕ) → read.is_escapable c true true ≡ is_escapable c
same_escaped c =
    by_brace (eqb c open_brace) (eqb c close_brace) (eqb c number_sign) (eqb c ampersand) (eqb c percent_sign) (eqb c dollar_sign) (eqb c underscore) (eqb c backslash) (eqb c tilde) (eqb c circumflex)
  where
    by_brace : (a b n m p d u s t x : Bool) → (((((a || b) || ((((n || m) || p) || d) || u)) || s) || t) || x) ≡ ((((((((((a || b) || n) || m) || p) || d) || u) || s) || t) || x))
    by_brace true b n m p d u s t x = refl
    by_brace false true n m p d u s t x = refl
    by_brace false false n m p d u s t x = refl

-- a character is read as itself
pub plain-read : (c : ℕ) (cs : List ℕ) → (is_brace c || eqb c backslash) ≡ false → verbatim_from false (c ∷ cs) ≡ c ∷ verbatim_from false cs
plain-read c cs e =
    let parts = or_parts (is_brace c) (eqb c backslash) e in
    let first = parts.0 in
    let second = parts.1 in
    rw (second, first) refl

-- what no backslash escapes is neither a brace nor a backslash
no_escape : (c : ℕ) → is_escapable c ≡ false → (is_brace c || eqb c backslash) ≡ false
no_escape c e = grind (arith, nat_tests)

-- a backslash that waits before what it does not escape is read as itself
waits : (cs : List ℕ) → Bars is_escapable cs → verbatim_from true cs ≡ backslash ∷ verbatim_from false cs
waits [] bars = refl
waits (c ∷ cs) bars =
    let none : read.is_escapable c true true ≡ false = same_escaped c ∙ bars in
    rw none (ap (λ (x : List ℕ). backslash ∷ x) (sym (plain-read c cs (no_escape c bars))))

brace_is_none : (c : ℕ) → is_brace c ≡ true → eqb c backslash ≡ false
brace_is_none c e = grind (arith, nat_tests)

escaped-read : (c : ℕ) (cs : List ℕ) → is_escapable c ≡ true → verbatim_from true (c ∷ cs) ≡ c ∷ verbatim_from false cs
escaped-read c cs e =
    let is : read.is_escapable c true true ≡ true = same_escaped c ∙ e in
    rw is refl

brace-read : (c : ℕ) (cs : List ℕ) → is_brace c ≡ true → verbatim_from false (c ∷ cs) ≡ verbatim_from false cs
brace-read c cs e =
    let none = brace_is_none c e in
    rw (none, e) refl

-- ---- whole texts

pub verbatim-again : (cs t : List ℕ) → IsVerbatim cs t → verbatim_text cs ≡ t
verbatim-again cs t nothing = refl
verbatim-again cs t (escaped c more u e is) = escaped-read c more e ∙ ap (λ (x : List ℕ). c ∷ x) (verbatim-again more u is)
verbatim-again cs t (brace c more u e is) = brace-read c more e ∙ verbatim-again more u is
verbatim-again cs t (lone_backslash more u bars is) = waits more bars ∙ ap (λ (x : List ℕ). backslash ∷ x) (verbatim-again more u is)
verbatim-again cs t (itself c more u e is) = plain-read c more e ∙ ap (λ (x : List ℕ). c ∷ x) (verbatim-again more u is)

-- a text is related to what is read of it
abbrev Related : List ℕ → Type 0
Related cs = IsVerbatim cs (verbatim_text cs)

as_read : (cs t : List ℕ) → verbatim_text cs ≡ t → IsVerbatim cs t → Related cs
as_read cs t e is = subst (IsVerbatim cs) (sym e) is

-- after a backslash
after_backslash : (cs : List ℕ) → Related cs → ((d : ℕ) (ds : List ℕ) → cs ≡ d ∷ ds → Related ds) → Related (backslash ∷ cs)
after_backslash [] is more = lone_backslash [] [] tt nothing
after_backslash (d ∷ ds) is more = by_test (is_escapable d) refl
  where
    by_test : (b : Bool) → is_escapable d ≡ b → Related (backslash ∷ d ∷ ds)
    by_test true e = as_read (backslash ∷ d ∷ ds) (d ∷ verbatim_text ds) (escaped-read d ds e) (escaped d ds (verbatim_text ds) e (more d ds refl))
    by_test false e = as_read (backslash ∷ d ∷ ds) (backslash ∷ verbatim_text (d ∷ ds)) (waits (d ∷ ds) e) (lone_backslash (d ∷ ds) (verbatim_text (d ∷ ds)) e is)

-- one more character before a text
one_more : (c : ℕ) (cs : List ℕ) → Related cs → ((d : ℕ) (ds : List ℕ) → cs ≡ d ∷ ds → Related ds) → Related (c ∷ cs)
one_more c cs is more = by_tests (eqb c backslash) (is_brace c) refl refl
  where
    by_tests : (a b : Bool) → eqb c backslash ≡ a → is_brace c ≡ b → Related (c ∷ cs)
    by_tests true b e f = subst (λ (x : ℕ). Related (x ∷ cs)) (sym (eqb-true c backslash e)) (after_backslash cs is more)
    by_tests false true e f = as_read (c ∷ cs) (verbatim_text cs) (brace-read c cs f) (brace c cs (verbatim_text cs) f is)
    by_tests false false e f =
        let none = or_from (is_brace c) (eqb c backslash) f e in
        as_read (c ∷ cs) (c ∷ verbatim_text cs) (plain-read c cs none) (itself c cs (verbatim_text cs) none is)

tail_is : (d e : ℕ) (ds es : List ℕ) → d ∷ ds ≡ e ∷ es → ds ≡ es
tail_is d e ds es same = cc

-- a text, and the same text after its first character
both_related : (cs : List ℕ) → Related cs × ((d : ℕ) (ds : List ℕ) → cs ≡ d ∷ ds → Related ds)
both_related [] = (nothing, λ d ds e. absurd cc)
both_related (c ∷ cs) =
    let more = both_related cs in
    (one_more c cs more.0 more.1, λ d ds e. subst Related (tail_is c d cs ds e) more.0)

pub verbatim-takes : (cs t : List ℕ) → verbatim_text cs ≡ t → IsVerbatim cs t
verbatim-takes cs t e = subst (IsVerbatim cs) e (both_related cs).0
