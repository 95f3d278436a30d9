-- Words, texts between marks, and texts without the white space at their ends, as relations by cases. A text is a list of characters, each
-- Normal or not; only Normal characters part anything.
use Rattle.std.specs.Prelude.{◌≡◌, ℕ, Bool, true, false, ◌==◌, ◌&&◌, List, [], ◌∷◌, ◌++◌}
use Rattle.std.specs.Char.{is_whitespace}
use Rattle.laws.specs.Characters.{space}
use Rattle.biblatex_lists.specs.declared.styled_char.StyledChar.{StyledChar}
use Rattle.biblatex_lists.specs.StyledChars.{plain}

-- characters, each Normal or not
abbrev pub Text : Type 0
Text = List StyledChar

-- Normal white space
abbrev pub is_blank : StyledChar → Bool
is_blank s = s.is_normal && is_whitespace s.c

-- this Normal character
abbrev pub is_the : ℕ → StyledChar → Bool
is_the c s = s.is_normal && s.c == c

-- Each character of a text answers so to a test.
abbrev pub AllAnswer : (StyledChar → Bool) → Bool → Text → Type 0
AllAnswer test answer [] = Unit {0}
AllAnswer test answer (s ∷ ss) = (test s ≡ answer) × AllAnswer test answer ss

-- There is something in a list.
abbrev pub IsFilled : {A : Type 0} → List A → Type 0
IsFilled [] = ⊥
IsFilled (x ∷ xs) = Unit {0}

-- A text is at its end, or begins with white space.
abbrev pub EndsOrParts : Text → Type 0
EndsOrParts [] = Unit {0}
EndsOrParts (s ∷ ss) = is_blank s ≡ true

-- The words of a text: all characters between white space, one at least, with white space before, between and after them.
abbrev pub AreWords : Text → List Text → Type 0
AreWords ss [] = AllAnswer is_blank true ss
AreWords ss (w ∷ ws) = (g : Text) × (rest : Text) × (ss ≡ g ++ (w ++ rest)) × AllAnswer is_blank true g × IsFilled w × AllAnswer is_blank false w × EndsOrParts rest
    × AreWords rest ws

-- Words as plain characters, with one space between each two.
abbrev pub SayWords : List Text → List ℕ → Type 0
SayWords [] cs = cs ≡ []
SayWords (w ∷ []) cs = cs ≡ plain w
SayWords (w ∷ v ∷ ws) cs = (ds : List ℕ) × SayWords (v ∷ ws) ds × (cs ≡ plain w ++ space ∷ ds)

-- The texts between marks, of which none stands in them; there is one text more than there are marks.
abbrev pub IsCutAt : (StyledChar → Bool) → Text → List Text → Type 0
IsCutAt is_mark ss [] = ⊥
IsCutAt is_mark ss (p ∷ []) = (ss ≡ p) × AllAnswer is_mark false p
IsCutAt is_mark ss (p ∷ q ∷ ps) = (s : StyledChar) × (rest : Text) × (ss ≡ p ++ s ∷ rest) × (is_mark s ≡ true) × AllAnswer is_mark false p × IsCutAt is_mark rest (q ∷ ps)

-- A text that does not begin with white space.
abbrev pub BeginsTight : Text → Type 0
BeginsTight [] = Unit {0}
BeginsTight (s ∷ ss) = is_blank s ≡ false

-- A text that does not end with white space.
abbrev pub EndsTight : Text → Type 0
EndsTight [] = Unit {0}
EndsTight (s ∷ []) = is_blank s ≡ false
EndsTight (s ∷ t ∷ ss) = EndsTight (t ∷ ss)

-- A text without the white space at its ends.
abbrev pub IsTrimmed : Text → Text → Type 0
IsTrimmed ss t = (a : Text) × (b : Text) × (ss ≡ a ++ (t ++ b)) × AllAnswer is_blank true a × AllAnswer is_blank true b × BeginsTight t × EndsTight t
