-- Where a byte of a source stands, counted onward from byte to byte.
use Rattle.std.specs.Prelude.{◌≡◌, ◌≤◌, ℕ, Bool, ◌+◌, ◌==◌, not, List, length, take, drop, count_by, if◌then◌else◌}
use Rattle.std.specs.Int.{is_in_range}
use Rattle.laws.specs.Characters.{line_feed}
use Rattle.source_positions.specs.Position.{line_before, line_number}

-- a byte that begins a character: in UTF-8 each but those that go on with one
abbrev pub begins_character : ℕ → Bool
begins_character b = not (is_in_range 0x80 0xBF b)

-- how many characters such bytes begin
abbrev pub characters_begun : List ℕ → ℕ
characters_begun bytes = count_by begins_character bytes

-- the number of the column, from one; of a source that is UTF-8 a column is a character
abbrev pub column_number : List ℕ → ℕ → ℕ
column_number source at = characters_begun (line_before source at) + 1

-- a place: the number of its line, where that line begins, how many of its characters begin before the place, and how many bytes come before it
pub record Place : Type 0 where
  pub number : ℕ
  pub start : ℕ
  pub begun : ℕ
  pub at : ℕ

-- the place after one more byte
abbrev pub next_place : Place → ℕ → Place
next_place p b =
    if b == line_feed then record { number = p.number + 1; start = p.at + 1; begun = 0; at = p.at + 1 }
    else record { number = p.number; start = p.start; begun = p.begun + (if begins_character b then 1 else 0); at = p.at + 1 }

-- a place says where its byte stands in a source
pub record IsPlace (source : List ℕ) (p : Place) : Type 0 where
  pub within : p.at ≤ length source
  pub started : p.start ≤ p.at
  pub number : line_number source p.at ≡ p.number
  pub line : line_before source p.at ≡ drop p.start (take p.at source)
  pub begun : characters_begun (line_before source p.at) ≡ p.begun
