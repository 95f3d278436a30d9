-- Words and the marks between parts of a name. Only Normal characters part.
use Rattle.std.specs.Prelude.{ℕ, zero, suc, ◌+◌, Bool, false, ◌==◌, ◌&&◌, List, [], ◌∷◌, ◌++◌, flat_map, if◌then◌else◌, Option, Some, None}
use Rattle.std.specs.List.{filter}
use Rattle.ucd_category.specs.GeneralCategory.{general_category, general_category_eq}
use Rattle.ucd_category.specs.declared.GeneralCategory.TheVariants.{LowercaseLetter}
use Rattle.biblatex_lists.specs.declared.styled_char.StyledChar.{StyledChar}
use Rattle.biblatex_lists.specs.StyledChars.{is_gap, plain}
use Rattle.biblatex_lists.specs.Parts.{before_first}
use Rattle.laws.specs.Characters.{space, comma, equals_sign}
use Rattle.laws.specs.Text.{is_filled}
use Rattle.biblatex_lists.specs.declared.words.Mark.{Mark}
use Rattle.biblatex_lists.specs.declared.words.Mark.TheVariants.{Gap, Comma, Equals}

-- whether the character is the mark
abbrev pub is_mark : Mark → StyledChar → Bool
is_mark Gap s = is_gap s
is_mark Comma s = s.is_normal && s.c == comma
is_mark Equals s = s.is_normal && s.c == equals_sign

-- a character put before what stands before a mark
abbrev pub prepended : StyledChar → Option (List StyledChar × List StyledChar) → Option (List StyledChar × List StyledChar)
prepended s None = None
prepended s (Some p) = Some (s ∷ p.0, p.1)

-- what stands before and after the first such mark
abbrev pub split_once : Mark → List StyledChar → Option (List StyledChar × List StyledChar)
split_once mark [] = None
split_once mark (s ∷ ss) = if is_mark mark s then Some ([], ss) else prepended s (split_once mark ss)

-- the text cut at each such mark
abbrev pub cut_at : Mark → List StyledChar → List (List StyledChar)
cut_at mark [] = [] ∷ []
cut_at mark (s ∷ ss) = if is_mark mark s then [] ∷ cut_at mark ss else before_first (s ∷ []) (cut_at mark ss)

-- the words between white space
abbrev pub words : List StyledChar → List (List StyledChar)
words ss = filter is_filled (cut_at Gap ss)

-- a word after a space
abbrev pub past_space : List StyledChar → List ℕ
past_space w = space ∷ plain w

-- words with one space between them
abbrev pub joined_words : List (List StyledChar) → List ℕ
joined_words [] = []
joined_words (w ∷ ws) = plain w ++ flat_map past_space ws

-- a small word begins with a Normal letter of lower case
abbrev pub is_small : List StyledChar → Bool
is_small [] = false
is_small (s ∷ ss) = s.is_normal && general_category_eq (general_category s.c) LowercaseLetter

-- the number of words before the first small one
abbrev pub small_at : List (List StyledChar) → ℕ
small_at [] = 0
small_at (w ∷ ws) = if is_small w then 0 else small_at ws + 1

-- one word more before: where none counts, it counts if it is small
abbrev pub counted : Bool → ℕ → ℕ
counted is_small zero = if is_small then 1 else 0
counted is_small (suc n) = n + 2

-- the number of words up to the last small one other than the last word
abbrev pub lead_count : List (List StyledChar) → ℕ
lead_count [] = 0
lead_count (w ∷ []) = 0
lead_count (w ∷ v ∷ ws) = counted (is_small w) (lead_count (v ∷ ws))
