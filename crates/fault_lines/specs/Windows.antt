-- What is shown of a line: a window, so that what is said of a fault does not grow with its line.
use Rattle.std.specs.Prelude.{ℕ, Bool, ◌-◌, nat_lt, List, [], ◌∷◌, ◌++◌, length, take, drop, map, flat_map, if◌then◌else◌}
use Rattle.laws.specs.Characters.{horizontal_ellipsis, circumflex}
use Rattle.laws.specs.Text.{text}
use Rattle.source_positions.specs.Position.{blank, line_after, line_before, line_characters, shown_in_line}

-- so many characters of a line are shown at most on each side of a position
abbrev pub side : ℕ
side = 60

-- and so many bytes of it are read on each side. A character has four at most, and the bytes may begin and end within one, so they have one
-- character more than are shown, where they are not all that there is.
abbrev pub reach : ℕ
reach = 244

-- an ellipsis stands where characters are left out
abbrev pub left_out : Bool → List ℕ
left_out is = if is then horizontal_ellipsis ∷ [] else []

-- what is shown of characters before a position: the last ones
abbrev pub shown_before : List ℕ → List ℕ
shown_before cs = left_out (nat_lt side (length cs)) ++ flat_map shown_in_line (drop (length cs - side) cs)

-- what is shown of characters after it: the first ones
abbrev pub shown_after : List ℕ → List ℕ
shown_after cs = flat_map shown_in_line (take side cs) ++ left_out (nat_lt side (length cs))

-- the last bytes of a line before a position
abbrev pub last_bytes : List ℕ → List ℕ
last_bytes bytes = drop (length bytes - reach) bytes

-- what is shown of the line with that position, before it and after it
abbrev pub before_at : List ℕ → ℕ → List ℕ
before_at source at = shown_before (line_characters (last_bytes (line_before source at)))

abbrev pub after_at : List ℕ → ℕ → List ℕ
after_at source at = shown_after (line_characters (take reach (line_after source at)))

-- the line as it is shown
abbrev pub window_at : List ℕ → ℕ → List ℕ
window_at source at = text (before_at source at ++ after_at source at)

-- a caret below the position, after a blank below each character that is shown before it
abbrev pub mark_at : List ℕ → ℕ → List ℕ
mark_at source at = map blank (before_at source at) ++ circumflex ∷ []
