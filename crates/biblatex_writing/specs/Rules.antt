-- Rules on styled texts, member after member: whether a rule holds of the members that are left, by what stands before them.
use Rattle.std.specs.Prelude.{ℕ, Bool, true, false, not, ◌&&◌, ◌==◌, List, [], ◌∷◌, Option, Some, None, if◌then◌else◌}
use Rattle.laws.specs.Characters.{space, hyphen}
use Rattle.biblatex_tex.specs.Character.{is_blank}
use Rattle.biblatex_content.specs.declared.chunk.Kind.{Kind}
use Rattle.biblatex_content.specs.Styled.{Member}
use Rattle.biblatex_content.specs.Tidy.{is_tidy_from}
use Rattle.biblatex_writing.specs.declared.settled_content.Tidy.{Tidy}
use Rattle.biblatex_writing.specs.declared.settled_content.Tidy.TheVariants as tidy
use Rattle.biblatex_writing.specs.declared.settled_content.Hyphens.{Hyphens}
use Rattle.biblatex_writing.specs.declared.settled_content.Hyphens.TheVariants as hyphens
use Rattle.biblatex_writing.specs.declared.settled_content.MathText.{MathText}
use Rattle.biblatex_writing.specs.SettledContent.{is_tidy_styled, are_of_one_kind, hyphen_kind, has_single_hyphens, is_math_from}

-- a rule where it is not broken yet
abbrev pub holds_after : {R : Type 0} → (R → List Member → Bool) → Option R → List Member → Bool
holds_after holds None ms = false
holds_after holds (Some rule) ms = holds rule ms

-- tidiness, after the start, a space, or another member
abbrev pub is_tidy_at : Tidy → List Member → Bool
is_tidy_at tidy.Start ms = is_tidy_styled ms
is_tidy_at tidy.Space ms = is_tidy_from true ms
is_tidy_at tidy.Other ms = is_tidy_from false ms

-- what stands before the next member, after a character
abbrev pub tidy_after : Tidy → ℕ → Option Tidy
tidy_after tidy.Start c = if is_blank c then None else Some tidy.Other
tidy_after tidy.Space c = if is_blank c then None else Some tidy.Other
tidy_after tidy.Other c = if c == space then Some tidy.Space else (if is_blank c then None else Some tidy.Other)

-- the kind of a hyphen that stands before
abbrev pub kind_before : Hyphens → Option Kind
kind_before (hyphens.Hyphen kind) = Some kind
kind_before hyphens.Other = None

-- single hyphens, after a hyphen of a kind or another member
abbrev pub are_single_after : Option Kind → List Member → Bool
are_single_after before [] = true
are_single_after before (m ∷ ms) = not (are_of_one_kind before (hyphen_kind m)) && has_single_hyphens (m ∷ ms)

abbrev pub are_single_at : Hyphens → List Member → Bool
are_single_at h ms = are_single_after (kind_before h) ms

-- what stands before the next member, after a character
abbrev pub hyphens_after : Hyphens → Kind → ℕ → Option Hyphens
hyphens_after h kind c = if c == hyphen then (if are_of_one_kind (kind_before h) (Some kind) then None else Some (hyphens.Hyphen kind)) else Some hyphens.Other

-- a math text, after what was read of it
abbrev pub is_math_at : MathText → List ℕ → Bool
is_math_at m cs = is_math_from m.is_escaped m.depth cs

abbrev pub is_math_after : Option MathText → List ℕ → Bool
is_math_after None cs = false
is_math_after (Some m) cs = is_math_at m cs
