-- Where a byte of a source stands, as a reader counts: its line and its column. And how that line is shown, with a mark below the position.
use Rattle.std.specs.Prelude.{ℕ, Bool, ◌+◌, not, ◌&&◌, ◌==◌, List, [], ◌∷◌, ◌++◌, length, take, drop, map, flat_map, if◌then◌else◌}
use Rattle.std.specs.Char.{is_control}
use Rattle.std.specs.Char.Escape.{escape_unicode}
use Rattle.std.specs.Str.{chars}
use Rattle.std.specs.Str.Lines.{strip_carriage_return}
use Rattle.std.specs.Str.Lossy.{utf8_lossy}
use Rattle.laws.specs.Characters.{tab, line_feed, space, circumflex}
use Rattle.laws.specs.Runs.{prefix_of}
use Rattle.laws.specs.Text.{text}

-- where reading has come to: how many lines have ended, and what was read of the line that has not
pub record Position : Type 0 where
  pub ended : ℕ
  pub read : List ℕ

-- after one more byte; a line feed ends the line
abbrev pub next_position : Position → ℕ → Position
next_position p b = if b == line_feed then record { ended = p.ended + 1; read = [] } else record { ended = p.ended; read = p.read ++ b ∷ [] }

-- after more bytes
abbrev pub position_from : Position → List ℕ → Position
position_from p [] = p
position_from p (b ∷ bs) = position_from (next_position p b) bs

-- after so many bytes of a source
abbrev pub position_at : List ℕ → ℕ → Position
position_at source at = position_from (record { ended = 0; read = [] }) (take at source)

-- the bytes of the line with that position: those before it, and those from it on, less the carriage return at their end, if there is one
abbrev pub line_before : List ℕ → ℕ → List ℕ
line_before source at = (position_at source at).read

abbrev pub line_after : List ℕ → ℕ → List ℕ
line_after source at = strip_carriage_return (prefix_of (λ b. not (b == line_feed)) (drop at source))

-- the characters of such bytes; U+FFFD stands for bytes that are of no character
abbrev pub line_characters : List ℕ → List ℕ
line_characters bytes = chars (utf8_lossy bytes)

-- a control character other than a tab
abbrev pub is_escaped : ℕ → Bool
is_escaped c = is_control c && not (c == tab)

-- the characters that show one of a line: \u{..} with its number in hexadecimal digits, or itself
abbrev pub shown_in_line : ℕ → List ℕ
shown_in_line c = if is_escaped c then escape_unicode c else c ∷ []

-- those that show bytes of a line
abbrev pub shown_line : List ℕ → List ℕ
shown_line bytes = flat_map shown_in_line (line_characters bytes)

-- the line with that position, as it is shown
abbrev pub line_at : List ℕ → ℕ → List ℕ
line_at source at = text (shown_line (line_before source at) ++ shown_line (line_after source at))

-- what stands below a character: a tab below a tab, a space below any other
abbrev pub blank : ℕ → ℕ
blank c = if c == tab then tab else space

-- a caret below the position, after a blank below each character that is shown before it
abbrev pub mark_at : List ℕ → ℕ → List ℕ
mark_at source at = map blank (shown_line (line_before source at)) ++ circumflex ∷ []

-- the numbers of the line and of the column, both from one; a column is a character of the source
abbrev pub line_number : List ℕ → ℕ → ℕ
line_number source at = (position_at source at).ended + 1

abbrev pub column_number : List ℕ → ℕ → ℕ
column_number source at = length (line_characters (line_before source at)) + 1
