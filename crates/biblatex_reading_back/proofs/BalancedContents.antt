-- What is written of contents is balanced.
use Rattle.std.proofs.Common.{◌≡◌, ℕ, zero, suc, ◌+◌, ◌-◌, Bool, true, false, true≢false, ◌&&◌, ◌||◌, ◌==◌, List, [], ◌∷◌, ◌++◌, codes, refl, sym, ap, subst, ◌∙◌, append_assoc, add-one, arith}
use Rattle.std.specs.Prelude.{if◌then◌else◌}
use Rattle.std.specs.List.{list_all, flat_map}
use Rattle.std.proofs.lemmas.Bool.{eqb-true, ne_eqb}
use Rattle.laws.specs.Characters.{backslash, circumflex, dollar_sign, open_brace, close_brace, tilde, no_break_space}
use Rattle.biblatex_tex.specs.Token.{begins_command}
use Rattle.biblatex_content.specs.declared.chunk.Kind.TheVariants.{Normal, Verbatim}
use Rattle.biblatex_content.specs.Styled.{Member, Letter, Math}
use Rattle.biblatex_content.specs.Verbatim.{is_reserved, is_escapable}
use Rattle.biblatex_content.specs.Writing.{escaped, guard, written_character, written_from, written_as_is, written_verbatim, written_content}
use Rattle.biblatex_content.proofs.Tests.{first_of_two, second_of_two}
use Rattle.biblatex_grammar.specs.Balanced.{Braces, bars}
use Rattle.biblatex_writing.specs.SettledContent.{is_tidy_styled, has_single_hyphens, is_math_from, is_math, may_stand, depth_after, is_writable, is_settled_content}
use Rattle.biblatex_reading_back.specs.Laws.{IsBalancedText}
use Rattle.biblatex_reading_back.proofs.BalancedTexts.{AreClosed, empty, more_character, more_taken, more_group, more_characters, both, before_first}

-- a character that is no brace and no backslash
free : (c : ℕ) → (c == open_brace) ≡ false → (c == close_brace) ≡ false → (c == backslash) ≡ false → bars Braces c ≡ false
free c p q r = by_tests (c == open_brace) (c == close_brace) (c == backslash) p q r
  where
    by_tests : (a b d : Bool) → a ≡ false → b ≡ false → d ≡ false → a || (b || (d || false)) ≡ false
    by_tests true b d p q r = absurd (true≢false p)
    by_tests false true d p q r = absurd (true≢false q)
    by_tests false false true p q r = absurd (true≢false r)
    by_tests false false false p q r = refl

first_no : (a b : Bool) → a || b ≡ false → a ≡ false
first_no true b e = e
first_no false b e = refl

second_no : (a b : Bool) → a || b ≡ false → b ≡ false
second_no true b e = absurd (true≢false e)
second_no false b e = e

-- a character of a verbatim field
as_is : (c : ℕ) (cs : List ℕ) → IsBalancedText cs → IsBalancedText (written_as_is c ++ cs)
as_is c cs t = by_escape (is_escapable c true false) refl
  where
    by_escape : (b : Bool) → is_escapable c true false ≡ b → IsBalancedText (escaped b c ++ cs)
    by_escape true e = more_taken c cs t
    by_escape false e =
        let no_brace = first_no ((c == open_brace) || (c == close_brace)) (c == backslash) e in
        more_character c cs (free c (first_no (c == open_brace) (c == close_brace) no_brace) (second_no (c == open_brace) (c == close_brace) no_brace) (second_no ((c == open_brace) || (c == close_brace)) (c == backslash) e)) t

all_as_is : (ds cs : List ℕ) → IsBalancedText cs → IsBalancedText (flat_map written_as_is ds ++ cs)
all_as_is [] cs t = t
all_as_is (d ∷ ds) cs t = subst IsBalancedText (sym (append_assoc (written_as_is d) (flat_map written_as_is ds) cs)) (as_is d (flat_map written_as_is ds ++ cs) (all_as_is ds cs t))

verbatim_balanced : (ms : List Member) → IsBalancedText (written_verbatim ms)
verbatim_balanced [] = empty
verbatim_balanced (Letter kind c ∷ ms) = as_is c (written_verbatim ms) (verbatim_balanced ms)
verbatim_balanced (Math text ∷ ms) = all_as_is text (written_verbatim ms) (verbatim_balanced ms)

-- a character of an ordinary field
ordinary_character : (c : ℕ) (cs : List ℕ) → IsBalancedText cs → IsBalancedText (written_character c ++ cs)
ordinary_character c cs t = by_tests (c == backslash) (c == tilde) (c == circumflex) (c == no_break_space) (is_escapable c false false) refl refl
  where
    braces : IsBalancedText (open_brace ∷ close_brace ∷ cs)
    braces = more_group [] cs empty t

    by_tests : (a b d f g : Bool) → (c == backslash) ≡ a → is_escapable c false false ≡ g
        → IsBalancedText ((if a then codes "\\textbackslash{}" else (if b then codes "\\textasciitilde{}" else (if d then codes "\\textasciicircum{}" else (if f then tilde ∷ [] else escaped g c)))) ++ cs)
    by_tests true b d f g p e = more_taken 116 (codes "extbackslash" ++ open_brace ∷ close_brace ∷ cs) (more_characters (codes "extbackslash") (open_brace ∷ close_brace ∷ cs) refl braces)
    by_tests false true d f g p e = more_taken 116 (codes "extasciitilde" ++ open_brace ∷ close_brace ∷ cs) (more_characters (codes "extasciitilde") (open_brace ∷ close_brace ∷ cs) refl braces)
    by_tests false false true f g p e = more_taken 116 (codes "extasciicircum" ++ open_brace ∷ close_brace ∷ cs) (more_characters (codes "extasciicircum") (open_brace ∷ close_brace ∷ cs) refl braces)
    by_tests false false false true g p e = more_character tilde cs refl t
    by_tests false false false false true p e = more_taken c cs t
    by_tests false false false false false p e =
        let no_brace = first_no ((c == open_brace) || (c == close_brace)) (is_reserved c) e in
        more_character c cs (free c (first_no (c == open_brace) (c == close_brace) no_brace) (second_no (c == open_brace) (c == close_brace) no_brace) p) t

-- Math after a backslash that takes the next character with it, or not.
abbrev AreClosedAfter : Bool → ℕ → List ℕ → Type 0
AreClosedAfter false depth cs = AreClosed depth cs
AreClosedAfter true depth cs = (c : ℕ) × (rest : List ℕ) × (cs ≡ c ∷ rest) × AreClosed depth rest

-- a brace that opens
opened : (depth : ℕ) (cs : List ℕ) → AreClosed (suc depth) cs → AreClosed depth (open_brace ∷ cs)
opened depth cs (inner, rest, t, is, others) =
    subst (λ (x : List ℕ). AreClosed depth (open_brace ∷ x)) (sym is)
    (before_first (λ (xs : List ℕ). open_brace ∷ (inner ++ close_brace ∷ xs)) (λ xs ys. ap (λ (x : List ℕ). open_brace ∷ x) (sym (append_assoc inner (close_brace ∷ xs) ys))) (λ xs u. more_group inner xs t u) depth rest others)

-- a backslash and the character after it
taken : (depth : ℕ) (cs : List ℕ) → AreClosedAfter true depth cs → AreClosed depth (backslash ∷ cs)
taken depth cs (c, rest, is, others) =
    subst (λ (x : List ℕ). AreClosed depth (backslash ∷ x)) (sym is)
    (before_first (λ (xs : List ℕ). backslash ∷ c ∷ xs) (λ xs ys. refl) (λ xs u. more_taken c xs u) depth rest others)

-- what a step of math leads to is what follows
stepped : (depth : ℕ) (c : ℕ) (cs : List ℕ) → may_stand depth c ≡ true → AreClosedAfter (c == backslash) (depth_after depth c) cs → AreClosed depth (c ∷ cs)
stepped depth c cs stands others = by_tests (c == backslash) (c == open_brace) (c == close_brace) refl refl refl others
  where
    closes : (d : ℕ) → may_stand d close_brace ≡ true → AreClosed (d - 1) cs → AreClosed d (close_brace ∷ cs)
    closes zero s h = absurd (true≢false (sym s))
    closes (suc d) s h = ([], cs, empty, refl, subst (λ (n : ℕ). AreClosed n cs) (omega arith) h)

    by_tests : (a o k : Bool) → (c == backslash) ≡ a → (c == open_brace) ≡ o → (c == close_brace) ≡ k → AreClosedAfter a (if o then depth + 1 else (if k then depth - 1 else depth)) cs → AreClosed depth (c ∷ cs)
    by_tests true o k p q r h =
        let is : c ≡ backslash = eqb-true c backslash p in
        let no_open : o ≡ false = sym q ∙ ap (λ (x : ℕ). x == open_brace) is in
        let no_close : k ≡ false = sym r ∙ ap (λ (x : ℕ). x == close_brace) is in
        subst (λ (x : ℕ). AreClosed depth (x ∷ cs)) (sym is)
        (taken depth cs (subst (λ (n : ℕ). AreClosedAfter true n cs) (ap (λ (t : Bool). if t then depth + 1 else (if k then depth - 1 else depth)) no_open ∙ ap (λ (t : Bool). if t then depth - 1 else depth) no_close) h))
    by_tests false true k p q r h = subst (λ (x : ℕ). AreClosed depth (x ∷ cs)) (sym (eqb-true c open_brace q)) (opened depth cs (subst (λ (n : ℕ). AreClosed n cs) (add-one depth) h))
    by_tests false false true p q r h =
        let is : c ≡ close_brace = eqb-true c close_brace r in
        subst (λ (x : ℕ). AreClosed depth (x ∷ cs)) (sym is) (closes depth (ap (may_stand depth) (sym is) ∙ stands) h)
    by_tests false false false p q r h = before_first (λ (xs : List ℕ). c ∷ xs) (λ xs ys. refl) (λ xs u. more_character c xs (free c q r p) u) depth cs h

math_closed : (b : Bool) (depth : ℕ) (cs : List ℕ) → is_math_from b depth cs ≡ true → AreClosedAfter b depth cs
math_closed true depth [] is = absurd (true≢false (sym is))
math_closed false zero [] is = empty
math_closed false (suc depth) [] is = absurd (true≢false (sym is ∙ ne_eqb (suc depth) 0 (λ e. omega (arith, e))))
math_closed true depth (c ∷ cs) is = (c, cs, refl, math_closed false depth cs is)
math_closed false depth (c ∷ cs) is =
    stepped depth c cs (first_of_two (may_stand depth c) (is_math_from (c == backslash) (depth_after depth c) cs) is)
    (math_closed (c == backslash) (depth_after depth c) cs (second_of_two (may_stand depth c) (is_math_from (c == backslash) (depth_after depth c) cs) is))

-- a math piece with its dollar signs
math_balanced : (text cs : List ℕ) → is_math text ≡ true → IsBalancedText cs → IsBalancedText (dollar_sign ∷ (text ++ dollar_sign ∷ cs))
math_balanced text cs is t = more_character dollar_sign (text ++ dollar_sign ∷ cs) refl (both text (dollar_sign ∷ cs) (math_closed false 0 text is) (more_character dollar_sign cs refl t))

-- how many braces are open
abbrev depth_in : Bool → ℕ
depth_in true = 1
depth_in false = 0

-- a group begins
group_balanced : (cs ds : List ℕ) → AreClosed 1 (cs ++ ds) → IsBalancedText (open_brace ∷ (guard cs ++ (cs ++ ds)))
group_balanced cs ds closed = by_guard (begins_command cs)
  where
    by_guard : (b : Bool) → IsBalancedText (open_brace ∷ ((if b then open_brace ∷ close_brace ∷ [] else []) ++ (cs ++ ds)))
    by_guard false = opened 0 (cs ++ ds) closed
    by_guard true = opened 0 (open_brace ∷ close_brace ∷ (cs ++ ds)) (before_first (λ (xs : List ℕ). open_brace ∷ close_brace ∷ xs) (λ xs ys. refl) (λ xs u. more_group [] xs empty u) 1 (cs ++ ds) closed)

ordinary_closed : (is_open : Bool) (ms : List Member) → list_all is_writable ms ≡ true → AreClosed (depth_in is_open) (written_from is_open ms)
ordinary_closed true [] all = ([], [], empty, refl, empty)
ordinary_closed false [] all = empty
ordinary_closed true (Letter Normal c ∷ ms) all = ([], written_character c ++ written_from false ms, empty, refl, ordinary_character c (written_from false ms) (ordinary_closed false ms all))
ordinary_closed false (Letter Normal c ∷ ms) all = ordinary_character c (written_from false ms) (ordinary_closed false ms all)
ordinary_closed true (Letter Verbatim c ∷ ms) all =
    before_first (λ (xs : List ℕ). written_character c ++ xs) (λ xs ys. sym (append_assoc (written_character c) xs ys)) (λ xs u. ordinary_character c xs u) 1 (written_from true ms) (ordinary_closed true ms all)
ordinary_closed false (Letter Verbatim c ∷ ms) all =
    let more = before_first (λ (xs : List ℕ). written_character c ++ xs) (λ xs ys. sym (append_assoc (written_character c) xs ys)) (λ xs u. ordinary_character c xs u) 1 (written_from true ms) (ordinary_closed true ms all) in
    subst (λ (x : List ℕ). IsBalancedText (open_brace ∷ x)) (sym (append_assoc (guard (written_character c)) (written_character c) (written_from true ms))) (group_balanced (written_character c) (written_from true ms) more)
ordinary_closed true (Math text ∷ ms) all =
    ([], dollar_sign ∷ (text ++ dollar_sign ∷ written_from false ms), empty, refl, math_balanced text (written_from false ms) (first_of_two (is_math text) (list_all is_writable ms) all) (ordinary_closed false ms (second_of_two (is_math text) (list_all is_writable ms) all)))
ordinary_closed false (Math text ∷ ms) all =
    math_balanced text (written_from false ms) (first_of_two (is_math text) (list_all is_writable ms) all) (ordinary_closed false ms (second_of_two (is_math text) (list_all is_writable ms) all))

pub content_balanced : (is_verbatim : Bool) (ms : List Member) → is_settled_content is_verbatim ms ≡ true → IsBalancedText (written_content is_verbatim ms)
content_balanced true ms settled = verbatim_balanced ms
content_balanced false ms settled = ordinary_closed false ms (second_of_two (is_tidy_styled ms && has_single_hyphens ms) (list_all is_writable ms) settled)
