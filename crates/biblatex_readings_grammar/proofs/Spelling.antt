-- What is read of the rows that give characters.
use Rattle.std.proofs.Common.{◌≡◌, ℕ, Bool, true, false, ◌||◌, eqb, List, [], ◌∷◌, Option, Some, None, refl, sym, ap, ◌∙◌, subst, inl, inr, arith}
use Rattle.std.specs.Char.{is_ascii_alphabetic}
use Rattle.std.proofs.lemmas.Bool.{or_cases, or_parts, or_left, or_right, not-true, eqb-true}
use Rattle.std.proofs.lemmas.Bool.Decides.{nat_tests}
use Rattle.laws.specs.Characters.{space, grave_accent, apostrophe, circumflex, tilde, equals_sign, full_stop, double_quote, dollar_sign, number_sign, percent_sign, ampersand, underscore, comma, hyphen, slash, backslash, open_brace, close_brace, thin_space}
use Rattle.laws.specs.Text.{text}
use Rattle.biblatex_tex.specs.Character.{is_blank}
use Rattle.biblatex_tex.specs.Command.{sign_mark, sign_text}
use Rattle.biblatex_content.specs.declared.chunk.Kind.{Kind}
use Rattle.biblatex_content.specs.Styled.{Member, letters}
use Rattle.biblatex_content.specs.Ordinary.{given, text_in, sign, command, character_or_groups}
use Rattle.biblatex_readings_grammar.specs.Characters.{is_reserved}
use Rattle.biblatex_readings_grammar.specs.Commands.{is_space_sign, is_empty_sign, is_other_sign, Spells, tie, reserved, blank, thin, empty, named, other, dollar, itself}
use Rattle.biblatex_readings_grammar.proofs.Modes.{Mode, Frames, standing, IsReady}
use Rattle.biblatex_readings_grammar.proofs.Total.{command-at}
use Rattle.biblatex_readings_grammar.proofs.Dollars.{lacks-partner}
use Rattle.biblatex_readings_grammar.proofs.Whole.{whole, gave, given-gave, tie-whole, sign-whole, command-whole, plain-whole, dollar-whole}

-- ---- signs that are no marks

-- What a backslash and a sign give that is no letter and no mark.
pub record Gives (c : ℕ) (cs : List ℕ) : Type 0 where
  pub no_letter : is_ascii_alphabetic c ≡ false
  pub no_mark : sign_mark c ≡ None
  pub text : sign_text c ≡ cs

either : (P : ℕ → Type 0) (c d : ℕ) (b : Bool) → (b ≡ true → P c) → P d → (b || eqb c d) ≡ true → P c
either P c d b first at is = elim (or_cases b (eqb c d) is) [ inl e ↦ first e | inr e ↦ subst P (sym (eqb-true c d e)) at ]

one : (P : ℕ → Type 0) (c d : ℕ) → P d → eqb c d ≡ true → P c
one P c d at is = subst P (sym (eqb-true c d is)) at

gives-reserved : (c : ℕ) → is_reserved c ≡ true → Gives c (c ∷ [])
unfolding sign_mark sign_text
gives-reserved c =
    let P : ℕ → Type 0 = λ x. Gives x (x ∷ []) in
    either P c underscore _
    (either P c dollar_sign _
    (either P c percent_sign _
    (either P c ampersand _
    (either P c number_sign _
    (either P c close_brace _
    (one P c open_brace record { no_letter = refl; no_mark = refl; text = refl })
    record { no_letter = refl; no_mark = refl; text = refl })
    record { no_letter = refl; no_mark = refl; text = refl })
    record { no_letter = refl; no_mark = refl; text = refl })
    record { no_letter = refl; no_mark = refl; text = refl })
    record { no_letter = refl; no_mark = refl; text = refl })
    record { no_letter = refl; no_mark = refl; text = refl }

-- letters and blanks are no marks
unmarked : (c : ℕ) → (is_ascii_alphabetic c || is_blank c) ≡ true → sign_mark c ≡ None
unfolding sign_mark
unmarked c e =
    let a : eqb c grave_accent ≡ false = grind (arith, nat_tests) in
    let b : eqb c apostrophe ≡ false = grind (arith, nat_tests) in
    let d : eqb c circumflex ≡ false = grind (arith, nat_tests) in
    let f : eqb c tilde ≡ false = grind (arith, nat_tests) in
    let g : eqb c equals_sign ≡ false = grind (arith, nat_tests) in
    let h : eqb c full_stop ≡ false = grind (arith, nat_tests) in
    let i : eqb c double_quote ≡ false = grind (arith, nat_tests) in
    rw (a, b, d, f, g, h, i) refl

blank_no_letter : (c : ℕ) → is_blank c ≡ true → is_ascii_alphabetic c ≡ false
blank_no_letter c e = grind (arith, nat_tests)

gives-blank : (c : ℕ) → is_blank c ≡ true → Gives c (space ∷ [])
unfolding sign_text
gives-blank c is =
    let some = or_right (eqb c backslash) (is_blank c) is in
    record { no_letter = blank_no_letter c is; no_mark = unmarked c (or_right (is_ascii_alphabetic c) (is_blank c) is); text = rw some refl }

gives-backslash : Gives backslash (space ∷ [])
unfolding sign_mark sign_text
gives-backslash = record { no_letter = refl; no_mark = refl; text = refl }

gives-space : (c : ℕ) → is_space_sign c ≡ true → Gives c (space ∷ [])
gives-space c is = elim (or_cases (eqb c backslash) (is_blank c) is) [
  | inl e ↦ subst (λ (x : ℕ). Gives x (space ∷ [])) (sym (eqb-true c backslash e)) gives-backslash
  | inr e ↦ gives-blank c e
]

gives-empty : (c : ℕ) → is_empty_sign c ≡ true → Gives c []
unfolding sign_mark sign_text
gives-empty c =
    let P : ℕ → Type 0 = λ x. Gives x [] in
    either P c slash _ (one P c hyphen record { no_letter = refl; no_mark = refl; text = refl }) record { no_letter = refl; no_mark = refl; text = refl }

gives-thin : Gives comma (thin_space ∷ [])
unfolding sign_mark sign_text
gives-thin = record { no_letter = refl; no_mark = refl; text = refl }

gives-other : (c : ℕ) → is_other_sign c ≡ true → sign_mark c ≡ None → Gives c (c ∷ [])
unfolding sign_text
gives-other c is none =
    let five = or_parts (is_reserved c || is_space_sign c || eqb c comma || is_empty_sign c) (is_ascii_alphabetic c) (not-true _ is) in
    let four = or_parts (is_reserved c || is_space_sign c || eqb c comma) (is_empty_sign c) five.0 in
    let three = or_parts (is_reserved c || is_space_sign c) (eqb c comma) four.0 in
    let two = or_parts (is_reserved c) (is_space_sign c) three.0 in
    let no_space = two.1 in
    let no_comma = three.1 in
    let no_empty = four.1 in
    record { no_letter = five.1; no_mark = none; text = rw (no_space, no_comma, no_empty) refl }

-- a mark is no letter
pub mark_no_letter : (c mark : ℕ) → sign_mark c ≡ Some mark → is_ascii_alphabetic c ≡ false
mark_no_letter c mark e = by_test (is_ascii_alphabetic c) refl
  where
    by_test : (b : Bool) → is_ascii_alphabetic c ≡ b → b ≡ false
    by_test true is = let never : None ≡ Some mark = sym (unmarked c (or_left (is_ascii_alphabetic c) (is_blank c) is)) ∙ e in absurd cc
    by_test false is = refl

-- ---- rows

pub gives-whole : (kind : Kind) (frames : Frames) (mode : Mode) (done : List Member) (marks : List ℕ) (c : ℕ) (cs rest : List ℕ) → IsReady mode → Gives c cs
    → whole (backslash ∷ c ∷ rest) (standing kind frames mode done marks) ≡ whole rest (gave kind frames mode done marks (letters kind cs))
gives-whole kind frames mode done marks c cs rest ready g =
    sign-whole kind frames mode done marks c rest ready g.no_letter
    ∙ (ap (λ (o : Option ℕ). whole rest (sign o c (standing kind frames mode done marks))) g.no_mark
    ∙ (ap (λ (x : List ℕ). whole rest (given x (standing kind frames mode done marks))) g.text ∙ ap (whole rest) (given-gave kind frames mode done marks cs)))

-- a plain character that comes next is no blank before an argument
abbrev pub Stays : Mode → List ℕ → Type 0
Stays mode cs = (c : ℕ) (ds p : List ℕ) → cs ≡ c ∷ ds → text_in mode (c ∷ p) ≡ c ∷ p

pub spells-whole : (cs given rest : List ℕ) → Spells cs given rest → (kind : Kind) (frames : Frames) (mode : Mode) (done : List Member) (marks : List ℕ) → IsReady mode → Stays mode cs
    → whole cs (standing kind frames mode done marks) ≡ whole rest (gave kind frames mode done marks (letters kind given))
spells-whole cs given rest (tie r) kind frames mode done marks ready stays = tie-whole kind frames mode done marks r ready
spells-whole cs given rest (reserved c r is) kind frames mode done marks ready stays = gives-whole kind frames mode done marks c (c ∷ []) r ready (gives-reserved c is)
spells-whole cs given rest (blank c r is) kind frames mode done marks ready stays = gives-whole kind frames mode done marks c (space ∷ []) r ready (gives-space c is)
spells-whole cs given rest (thin r) kind frames mode done marks ready stays = gives-whole kind frames mode done marks comma (thin_space ∷ []) r ready gives-thin
spells-whole cs given rest (empty c r is) kind frames mode done marks ready stays = gives-whole kind frames mode done marks c [] r ready (gives-empty c is)
spells-whole cs given rest (named ds name c r is none some) kind frames mode done marks ready stays =
    command-whole kind frames mode done marks ds name r ready (command-at ds name r is)
    ∙ (ap (λ (o : Option ℕ). whole r (command o (text name) (standing kind frames mode done marks))) none
    ∙ (ap (λ (o : Option ℕ). whole r (character_or_groups o (standing kind frames mode done marks))) some ∙ ap (whole r) (given-gave kind frames mode done marks (c ∷ []))))
spells-whole cs given rest (other c r is none) kind frames mode done marks ready stays = gives-whole kind frames mode done marks c (c ∷ []) r ready (gives-other c is none)
spells-whole cs given rest (dollar r lacks) kind frames mode done marks ready stays =
    dollar-whole kind frames mode done marks r false ready (lacks-partner r lacks) ∙ ap (whole r) (given-gave kind frames mode done marks (dollar_sign ∷ []))
spells-whole cs given rest (itself c r is) kind frames mode done marks ready stays = plain-whole kind frames mode done marks c r ready is (λ p. stays c r p refl)
