-- Tidying: blanks become spaces, of neighbouring spaces the first stays, and none stays at an end.
use Rattle.std.specs.Prelude.{◌≡◌, length, ℕ, not, ◌&&◌, ◌||◌, Bool, true, false, ◌==◌, List, [], ◌∷◌, ◌++◌, map, if◌then◌else◌, Option, Some, None}
use Rattle.biblatex_content.specs.declared.tidy.Gap.{Gap}
use Rattle.biblatex_content.specs.declared.tidy.Gap.TheVariants.{Start, Nothing, Space}
use Rattle.biblatex_content.specs.declared.tidy.Tidying.{Tidying}
use Rattle.biblatex_tex.specs.Character.{is_blank}
use Rattle.biblatex_content.specs.Styled.{Member, Letter, Math}
use Rattle.biblatex_content.specs.Views.{joined}
use Rattle.std.specs.Str.{chars, IsUtf8}
use Rattle.laws.specs.Characters.{space}
use Rattle.laws.specs.Text.{is_filled}

-- a blank becomes a space of its kind
abbrev pub spaced : Member → Member
spaced (Letter kind c) = if is_blank c then Letter kind space else Letter kind c
spaced (Math text) = Math text

abbrev pub is_space : Member → Bool
is_space (Letter kind c) = c == space
is_space (Math text) = false

-- a space goes where a space, or the start, stands before it
abbrev pub squeezed : Bool → List Member → List Member
squeezed after_space [] = []
squeezed after_space (m ∷ ms) = if is_space m then (if after_space then squeezed true ms else m ∷ squeezed true ms) else m ∷ squeezed false ms

-- a space at the end goes
abbrev pub without_last_space : List Member → List Member
without_last_space [] = []
without_last_space (m ∷ []) = if is_space m then [] else m ∷ []
without_last_space (m ∷ n ∷ ms) = m ∷ without_last_space (n ∷ ms)

-- a styled text, tidied
abbrev pub tidied : List Member → List Member
tidied ms = without_last_space (squeezed true (map spaced ms))

-- whether tidying leaves a character as it is: it is no blank, or a space after another character
abbrev pub stays : Bool → ℕ → Bool
stays after_space c = not (is_blank c && (after_space || not (c == space)))

-- whether tidying leaves characters as they are, where a space, or the start, stands before them or not; no characters
-- after a space are not, since the space would go
abbrev pub is_tidy : Bool → List ℕ → Bool
is_tidy after_space [] = not after_space
is_tidy after_space (c ∷ cs) = stays after_space c && is_tidy (c == space) cs

-- whether a space, or the start, stands after characters that tidying leaves as they are, where it stands before them or not; none where it
-- does not
abbrev pub spaced_after : Bool → List ℕ → Option Bool
spaced_after after_space [] = Some after_space
spaced_after after_space (c ∷ cs) = if stays after_space c then spaced_after (c == space) cs else None

-- A text has a prefix of this length that is empty, or that tidying leaves as it is.
pub record EndsTidily (whole : List ℕ) (end : ℕ) : Type 0 where
  pub prefix : List ℕ
  pub rest : List ℕ
  pub parts : whole ≡ prefix ++ rest
  pub long : length prefix ≡ end
  pub prefix_utf8 : IsUtf8 prefix
  pub rest_utf8 : IsUtf8 rest
  pub tidy : is_filled (chars prefix) ≡ true → is_tidy true (chars prefix) ≡ true

abbrev pub is_blank_member : Member → Bool
is_blank_member (Letter kind c) = is_blank c
is_blank_member (Math text) = false

-- a member that tidying keeps as it is, where a space, or the start, stands before it or not: no blank, or a space after another character
abbrev pub is_kept : Bool → Member → Bool
is_kept after_space m = not (is_blank_member m) || (is_space m && not after_space)

-- whether tidying leaves members as they are, where a space, or the start, stands before them or not; no members after a space are not, since
-- the space would go
abbrev pub is_tidy_from : Bool → List Member → Bool
is_tidy_from after_space [] = not after_space
is_tidy_from after_space (m ∷ ms) = is_kept after_space m && is_tidy_from (is_space m) ms

-- the same of members after others that it leaves as they are, and whether a space, or the start, stands after these; or after others that it
-- does not
abbrev pub is_tidy_after : Option Bool → List Member → Bool
is_tidy_after None ms = false
is_tidy_after (Some after_space) ms = is_tidy_from after_space ms

-- what is still to be written of a text in which the gap stands before these members
abbrev pub tidied_after : Gap → List Member → List Member
tidied_after Start ms = tidied ms
tidied_after Nothing ms = without_last_space (squeezed false (map spaced ms))
tidied_after (Space kind) ms = without_last_space (Letter kind space ∷ squeezed true (map spaced ms))

-- the space that a gap becomes
abbrev pub owed : Gap → List Member
owed Start = []
owed Nothing = []
owed (Space kind) = Letter kind space ∷ []

-- what has been written, and what is still to be written of these members
abbrev pub to_come : Tidying → List Member → List Member
to_come t ms = joined t.contents ++ tidied_after t.gap ms
