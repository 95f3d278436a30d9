-- The people of a text, as cuts at the word `and`.
use Rattle.std.specs.Prelude.{◌≡◌, ℕ, Bool, true, ◌==◌, ◌&&◌, ◌⊎◌, List, [], ◌∷◌, ◌++◌, codes}
use Rattle.std.specs.Char.{to_ascii_lowercase}
use Rattle.std.specs.List.{AllZip}
use Rattle.laws.specs.Characters.{lower_a, lower_d, lower_n}
use Rattle.biblatex_lists.specs.declared.styled_char.StyledChar.{StyledChar}
use Rattle.biblatex_lists.specs.StyledChars.{of_style}
use Rattle.biblatex_lists.specs.Reading.{Named}
use Rattle.biblatex_readings_grammar.specs.Words.{Text, is_blank, IsTrimmed}
use Rattle.biblatex_readings_grammar.specs.Names.{IsName}

-- this Normal letter, in either case
abbrev pub is_either_case : ℕ → StyledChar → Bool
is_either_case lower s = s.is_normal && to_ascii_lowercase s.c == lower

-- White space, the word `and` in any case, and what follows, which begins with white space.
abbrev pub IsAnd : Text → Text → Type 0
IsAnd ss rest = (g : StyledChar) × (a : StyledChar) × (n : StyledChar) × (d : StyledChar) × (h : StyledChar) × (hs : Text) × (ss ≡ g ∷ a ∷ n ∷ d ∷ rest) × (rest ≡ h ∷ hs)
    × (is_blank g ≡ true) × (is_either_case lower_a a ≡ true) × (is_either_case lower_n n ≡ true) × (is_either_case lower_d d ≡ true) × (is_blank h ≡ true)

-- A first part of a text, at none of whose characters such a word begins, and what follows it.
abbrev pub IsPart : Text → Text → Text → Type 0
IsPart ss [] rest = ss ≡ rest
IsPart ss (s ∷ p) rest = (more : Text) × (ss ≡ s ∷ more) × ((other : Text) → IsAnd ss other → ⊥) × IsPart more p rest

-- The parts of a text between such words. The white space after one of these words may stand before the next.
abbrev pub IsParted : Text → List Text → Type 0
IsParted ss [] = ⊥
IsParted ss (p ∷ []) = IsPart ss p []
IsParted ss (p ∷ q ∷ ps) = (a : Text) × (b : Text) × IsPart ss p a × IsAnd a b × IsParted b (q ∷ ps)

-- A name without a word in any part.
abbrev pub IsNobody : Named → Type 0
IsNobody n = (n.name ≡ []) × (n.given_name ≡ []) × (n.prefix ≡ []) × (n.suffix ≡ [])

-- Those texts, in their order, whose names have words.
abbrev pub AreSomeone : List Text → List Text → Type 0
AreSomeone [] qs = qs ≡ []
AreSomeone (p ∷ ps) qs = (n : Named) × IsName p n
    × ((IsNobody n × AreSomeone ps qs) ⊎ ((IsNobody n → ⊥) × ((rs : List Text) × (qs ≡ p ∷ rs) × AreSomeone ps rs)))

-- The word `others`, in Normal letters of lower case.
abbrev pub IsOthers : Text → Type 0
IsOthers p = p ≡ of_style true (codes "others")

-- Texts without a last one that is this word.
abbrev pub IsWithoutOthers : List Text → List Text → Type 0
IsWithoutOthers ps qs = ((p : Text) × (ps ≡ qs ++ p ∷ []) × IsOthers p) ⊎ (((p : Text) (rs : List Text) → ps ≡ rs ++ p ∷ [] → IsOthers p → ⊥) × (qs ≡ ps))

-- The people of a text: its parts, without the white space at their ends, those of them that name someone, without a last `others`, and the
-- names of these.
abbrev pub ArePeople : Text → List Named → Type 0
ArePeople ss ns = (ps : List Text) × (ts : List Text) × (qs : List Text) × (rs : List Text) × IsParted ss ps × AllZip IsTrimmed ps ts × AreSomeone ts qs
    × IsWithoutOthers qs rs × AllZip IsName rs ns
