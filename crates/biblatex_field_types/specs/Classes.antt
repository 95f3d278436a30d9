-- Values that are read back, in plain words.
use Rattle.std.specs.Prelude.{◌≡◌, true, ℕ, ◌<◌, ◌≤◌, List, [], ◌∷◌, length}
use Rattle.std.specs.List.{list_all}
use Rattle.biblatex_lists.specs.PeopleLaws.{is_plain_person}
use Rattle.biblatex_lists.specs.Reading.{Named}
use Rattle.std.specs.declared.ops.Range.{Range}

-- each element of a list has the property
abbrev pub Each : {X : Type 0} → (X → Type 0) → List X → Type 0
Each P [] = Unit {0}
Each P (x ∷ xs) = P x × Each P xs

-- from a page to a page, none above 2147483647
abbrev pub IsShort : Range ℕ → Type 0
IsShort r = (r.start ≤ 2147483647) × (r.end ≤ 2147483647)

abbrev pub AreShort : List (Range ℕ) → Type 0
AreShort rs = Each IsShort rs

-- a text of one character or more
abbrev pub IsFilled : List ℕ → Type 0
IsFilled t = 0 < length t

abbrev pub AreFilled : List (List ℕ) → Type 0
AreFilled ts = Each IsFilled ts

-- people without prefix and suffix, whose name and given name are capitalised words of ASCII letters
abbrev pub ArePlain : List Named → Type 0
ArePlain ns = list_all is_plain_person ns ≡ true
