-- Parts of the relation are those at which a text is cut.
use Rattle.std.proofs.Common.{◌≡◌, ℕ, zero, suc, Bool, true, false, true≢false, ◌&&◌, List, [], ◌∷◌, drop, refl, sym, ap, ◌∙◌, append-nil}
use Rattle.laws.specs.Characters.{lower_a, lower_d, lower_n}
use Rattle.biblatex_lists.specs.declared.styled_char.StyledChar.{StyledChar}
use Rattle.biblatex_lists.specs.StyledChars.{is_gap, spells}
use Rattle.biblatex_lists.specs.Parts.{begins_and, before_first, cut}
use Rattle.biblatex_lists.proofs.PartsCut.{before_none, before_more, cut_goes_on, cut_here}
use Rattle.biblatex_lists.proofs.PartsTested.{and_first, and_second}
use Rattle.biblatex_readings_grammar.specs.Words.{Text}
use Rattle.biblatex_readings_grammar.specs.People.{IsAnd, IsPart, IsParted}

all_five : (a b c d e : Bool) → a ≡ true → b ≡ true → c ≡ true → d ≡ true → e ≡ true → a && b && c && d && e ≡ true
all_five a b c d e is_a is_b is_c is_d is_e = rw (is_a, is_b, is_c, is_d, is_e) refl

-- where the relation says so, the word begins
record Begins (ss rest : Text) : Type 0 where
  pub begins : begins_and ss ≡ true
  pub left : drop 4 ss ≡ rest

and_begins : (ss rest : Text) → IsAnd ss rest → Begins ss rest
and_begins ss rest (g, a, n, d, h, hs, e, f, before, is_a, is_n, is_d, behind) =
    let whole : ss ≡ g ∷ a ∷ n ∷ d ∷ h ∷ hs = e ∙ ap (λ (x : Text). g ∷ a ∷ n ∷ d ∷ x) f in
    record {
      begins = ap begins_and whole ∙ all_five (is_gap g) (spells lower_a a) (spells lower_n n) (spells lower_d d) (is_gap h) before is_a is_n is_d behind;
      left = ap (drop 4) whole ∙ sym f;
    }

-- and where the word begins, the relation says so
begins_is : (ss : Text) → begins_and ss ≡ true → IsAnd ss (drop 4 ss)
begins_is [] e = absurd cc
begins_is (g ∷ []) e = absurd cc
begins_is (g ∷ a ∷ []) e = absurd cc
begins_is (g ∷ a ∷ n ∷ []) e = absurd cc
begins_is (g ∷ a ∷ n ∷ d ∷ []) e = absurd cc
begins_is (g ∷ a ∷ n ∷ d ∷ h ∷ ss) e =
    let four = and_first (is_gap g && spells lower_a a && spells lower_n n && spells lower_d d) (is_gap h) e in
    let three = and_first (is_gap g && spells lower_a a && spells lower_n n) (spells lower_d d) four in
    let two = and_first (is_gap g && spells lower_a a) (spells lower_n n) three in (
      g,
      a,
      n,
      d,
      h,
      ss,
      refl,
      refl,
      and_first (is_gap g) (spells lower_a a) two,
      and_second (is_gap g) (spells lower_a a) two,
      and_second (is_gap g && spells lower_a a) (spells lower_n n) three,
      and_second (is_gap g && spells lower_a a && spells lower_n n) (spells lower_d d) four,
      and_second (is_gap g && spells lower_a a && spells lower_n n && spells lower_d d) (is_gap h) e,
    )

none_begins : (ss : Text) → ((other : Text) → IsAnd ss other → ⊥) → begins_and ss ≡ false
none_begins ss none = by_test (begins_and ss) refl
  where
    by_test : (b : Bool) → begins_and ss ≡ b → b ≡ false
    by_test true e = absurd (none (drop 4 ss) (begins_is ss e))
    by_test false e = refl

begins_none : (ss : Text) → begins_and ss ≡ false → (other : Text) → IsAnd ss other → ⊥
begins_none ss e other is = true≢false (sym (and_begins ss other is).begins ∙ e)

-- a text is cut after a part
part_is : (p ss rest : Text) → IsPart ss p rest → cut ss ≡ before_first p (cut rest)
part_is [] ss rest e = ap cut e ∙ sym (before_none 0 rest)
part_is (s ∷ p) ss rest (more, e, none, part) =
    let here : begins_and (s ∷ more) ≡ false = ap begins_and (sym e) ∙ none_begins ss none in
    ap cut e ∙ (cut_goes_on s more here ∙ (ap (before_first (s ∷ [])) (part_is p more rest part) ∙ before_more (s ∷ []) p (cut rest)))

pub parted_is : (ps : List Text) (ss : Text) → IsParted ss ps → cut ss ≡ ps
parted_is [] ss parted = absurd parted
parted_is (p ∷ []) ss part = part_is p ss [] part ∙ ap (λ (x : Text). x ∷ []) (append-nil p)
parted_is (p ∷ q ∷ ps) ss (a, b, part, is, more) =
    let word = and_begins a b is in
    let left : cut (drop 4 a) ≡ q ∷ ps = ap cut word.left ∙ parted_is (q ∷ ps) b more in
    let next : cut a ≡ [] ∷ q ∷ ps = cut_here a word.begins ∙ ap (λ (x : List Text). [] ∷ x) left in
    part_is p ss a part ∙ (ap (before_first p) next ∙ ap (λ (x : Text). x ∷ q ∷ ps) (append-nil p))

-- The parts of a text.
pub record Parted (ss : Text) : Type 0 where
  pub parts : List Text
  pub are : IsParted ss parts

-- one more character of the first part
longer : (s : StyledChar) (ps : List Text) (ss : Text) → begins_and (s ∷ ss) ≡ false → IsParted ss ps → Parted (s ∷ ss)
longer s [] ss none parted = absurd parted
longer s (p ∷ []) ss none part = record { parts = (s ∷ p) ∷ []; are = (ss, refl, begins_none (s ∷ ss) none, part) }
longer s (p ∷ q ∷ ps) ss none (a, b, part, is, more) = record { parts = (s ∷ p) ∷ q ∷ ps; are = (a, b, (ss, refl, begins_none (s ∷ ss) none, part), is, more) }

-- the word before the first part
word_before : (ss rest : Text) (ps : List Text) → IsAnd ss rest → IsParted rest ps → IsParted ss ([] ∷ ps)
word_before ss rest [] is parted = absurd parted
word_before ss rest (p ∷ ps) is parted = (ss, rest, refl, is, parted)

-- each text has parts, also once some characters were passed over
parted_after : (ss : Text) (n : ℕ) → Parted (drop n ss)
parted_after [] zero = record { parts = [] ∷ []; are = refl }
parted_after [] (suc n) = record { parts = [] ∷ []; are = refl }
parted_after (s ∷ ss) (suc n) = parted_after ss n
parted_after (s ∷ ss) zero = by_test (λ n. parted_after ss n) (begins_and (s ∷ ss)) refl
  where
    by_test : ((n : ℕ) → Parted (drop n ss)) → (b : Bool) → begins_and (s ∷ ss) ≡ b → Parted (s ∷ ss)
    by_test more true e = record { parts = [] ∷ (more 3).parts; are = word_before (s ∷ ss) (drop 3 ss) (more 3).parts (begins_is (s ∷ ss) e) (more 3).are }
    by_test more false e = longer s (more 0).parts ss e (more 0).are

pub parted_of : (ss : Text) → Parted ss
parted_of ss = parted_after ss 0
