-- One side of a date, read from the left. Characters are numbers.
use Rattle.std.specs.Prelude.{ℕ, Bool, true, false, ◌==◌, ◌||◌, List, [], ◌∷◌, length, if◌then◌else◌, Option, Some, None, Result, Ok, Err, ℤ}
use Rattle.std.specs.Option.{option_map}
use Rattle.std.specs.Str.Parse.{digits_value}
use Rattle.laws.specs.Characters.{percent_sign, plus_sign, hyphen, colon, question_mark, upper_t, upper_z, tilde, no_break_space}
use Rattle.laws.specs.Results.{◌>>=◌}
use Rattle.laws.specs.Runs.{prefix_of, after}
use Rattle.texts.specs.Character.{passes}
use Rattle.texts.specs.Reading.{digits_at, token_at, taken}
use Rattle.texts.specs.declared.character.Class.TheVariants.{Digit}
use Rattle.texts.specs.declared.reader.Unreadable.{Unreadable}
use Rattle.texts.specs.declared.reader.Unreadable.TheVariants.{NotThere}
use Rattle.date_parts.specs.Parts.{part_at, signed}
use Rattle.biblatex_dates.specs.Datetime.{datetime_of}
use Rattle.biblatex_dates.specs.declared.datetime.Time.{Time}
use Rattle.biblatex_dates.specs.declared.datetime.TimeOffset.{TimeOffset}
use Rattle.biblatex_dates.specs.declared.datetime.TimeOffset.TheVariants.{Utc, Offset}
use Rattle.biblatex_dates.specs.declared.side.Mark.{Mark}
use Rattle.biblatex_dates.specs.declared.side.Side.{Side}

-- a year of four digits, or none where there are fewer or more
abbrev pub four : List ℕ → Option ℕ
four digits = if length digits == 4 then Some (digits_value 10 digits) else None

-- the number of one digit or more, which is none unless there are four
abbrev pub four_at : List ℕ → Result (Option ℕ × List ℕ) Unreadable
four_at cs = if length (prefix_of (passes Digit) cs) == 0 then Err NotThere else Ok (four (prefix_of (passes Digit) cs), after (passes Digit) cs)

-- the digits of a year
abbrev pub year_at : Bool → List ℕ → Result (Option ℤ × List ℕ) Unreadable
year_at is_negative cs = four_at cs >>= λ y. Ok (option_map (signed is_negative) y.0, y.1)

-- two digits, a colon, two digits
unfoldable pub minutes_at : List ℕ → Result ((ℕ × ℕ) × List ℕ) Unreadable
minutes_at cs = do
  hour ← digits_at 2 2 cs
  after_colon ← token_at colon hour.1
  minute ← digits_at 2 2 after_colon
  Ok ((hour.0, minute.0), minute.1)

-- after a colon two digits are wanted; else no second has passed
abbrev pub seconds_after : Bool × List ℕ → Result (ℕ × List ℕ) Unreadable
seconds_after (false, rest) = Ok (0, rest)
seconds_after (true, rest) = digits_at 2 2 rest

-- the hours and minutes after a sign
abbrev pub signed_offset_at : Bool → List ℕ → Result (Option TimeOffset × List ℕ) Unreadable
signed_offset_at positive cs = minutes_at cs >>= λ t. Ok (Some (Offset positive t.0.0 t.0.1), t.1)

-- `Z`, or a sign, hours and minutes, or nothing
abbrev pub offset_at : List ℕ → Result (Option TimeOffset × List ℕ) Unreadable
offset_at [] = Ok (None, [])
offset_at (c ∷ cs) =
    if c == upper_z then Ok (Some Utc, cs)
    else (if c == plus_sign then signed_offset_at true cs
    else (if c == hyphen then signed_offset_at false cs else Ok (None, c ∷ cs)))

-- hours and minutes, seconds or none, an offset or none
unfoldable pub clock_at : List ℕ → Result (Time × List ℕ) Unreadable
clock_at cs = do
  minutes ← minutes_at cs
  second ← seconds_after (taken colon minutes.1)
  offset ← offset_at second.1
  Ok (record { hour = minutes.0.0; minute = minutes.0.1; second = second.0; offset = offset.0 }, offset.1)

-- after a `T` a time is wanted
abbrev pub clock_after : Bool × List ℕ → Result (Option Time × List ℕ) Unreadable
clock_after (false, rest) = Ok (None, rest)
clock_after (true, rest) = clock_at rest >>= λ t. Ok (Some t.0, t.1)

-- after a day, `T` and a time, or nothing
abbrev pub time_at : Option ℕ → List ℕ → Result (Option Time × List ℕ) Unreadable
time_at None cs = Ok (None, cs)
time_at (Some d) cs = clock_after (taken upper_t cs)

abbrev pub no_mark : Mark
no_mark = record { uncertain = false; approximate = false }

-- `?` is uncertain, `~` and the space that does not break are approximate, `%` is both
abbrev pub mark_at : List ℕ → Mark × List ℕ
mark_at [] = (no_mark, [])
mark_at (c ∷ cs) =
    if c == question_mark then (record { uncertain = true; approximate = false }, cs)
    else (if c == tilde || c == no_break_space then (record { uncertain = false; approximate = true }, cs)
    else (if c == percent_sign then (record { uncertain = true; approximate = true }, cs) else (no_mark, c ∷ cs)))

-- a year, negative after a hyphen; a month, a day and a time, each after the one before it; a mark
unfoldable pub side_at : List ℕ → Result (Side × List ℕ) Unreadable
side_at cs = do
  year ← year_at (taken hyphen cs).0 (taken hyphen cs).1
  month ← part_at year.1
  day ← part_at month.1
  time ← time_at day.0 day.1
  Ok (record { datetime = datetime_of year.0 month.0 day.0 time.0; mark = (mark_at time.1).0 }, (mark_at time.1).1)
