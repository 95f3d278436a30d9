-- A date, read from the left as one side or two, and what it means. Characters are numbers.
use Rattle.std.specs.Prelude.{ℕ, Bool, true, false, ◌==◌, ◌||◌, List, [], ◌∷◌, if◌then◌else◌, Result, Ok, Err}
use Rattle.laws.specs.Characters.{full_stop, slash}
use Rattle.laws.specs.Results.{◌>>=◌}
use Rattle.texts.specs.Reading.{token_at, end_at, taken}
use Rattle.texts.specs.declared.reader.Unreadable.{Unreadable}
use Rattle.biblatex_dates.specs.Side.{side_at}
use Rattle.biblatex_dates.specs.declared.date.Date.{Date}
use Rattle.biblatex_dates.specs.declared.date.DateValue.{DateValue}
use Rattle.biblatex_dates.specs.declared.date.DateValue.TheVariants as values
use Rattle.biblatex_dates.specs.declared.error.TypeErrorKind.{TypeErrorKind}
use Rattle.biblatex_dates.specs.declared.error.TypeErrorKind.TheVariants.{InvalidFormat}
use Rattle.biblatex_dates.specs.declared.shape.Shape.{Shape}
use Rattle.biblatex_dates.specs.declared.shape.Shape.TheVariants.{One, Since, Until, Range}
use Rattle.biblatex_dates.specs.declared.side.Mark.{Mark}
use Rattle.biblatex_dates.specs.declared.side.Side.{Side}

-- whether the start is open, as a slash after two points or nothing says, and what follows
abbrev pub opening_at : List ℕ → Result (Bool × List ℕ) Unreadable
opening_at [] = Ok (false, [])
opening_at (c ∷ cs) = if c == slash then Ok (true, cs) else (if c == full_stop then (token_at full_stop cs >>= λ points. token_at slash points >>= λ rest. Ok (true, rest)) else Ok (false, c ∷ cs))

-- a side, and the end
abbrev pub last_at : List ℕ → Result Side Unreadable
last_at cs = side_at cs >>= λ s. end_at s.1 >>= λ rest. Ok s.0

-- after the slash: an open end, as two points or nothing say, or another side
abbrev pub slash_after : Side → List ℕ → Result Shape Unreadable
slash_after a [] = Ok (Since a)
slash_after a (c ∷ cs) = if c == full_stop then (token_at full_stop cs >>= λ points. end_at points >>= λ rest. Ok (Since a)) else (last_at (c ∷ cs) >>= λ b. Ok (Range a b))

-- after the first side: the end, or a slash
abbrev pub first_after : Side → Bool × List ℕ → Result Shape Unreadable
first_after a (false, rest) = end_at rest >>= λ rest. Ok (One a)
first_after a (true, rest) = slash_after a rest

-- after the start, which may be open
abbrev pub opening_after : Bool × List ℕ → Result Shape Unreadable
opening_after (true, rest) = last_at rest >>= λ b. Ok (Until b)
opening_after (false, rest) = side_at rest >>= λ a. first_after a.0 (taken slash a.1)

-- one side, two sides with a slash between, or one side with an open end or start
unfoldable pub shape_of : List ℕ → Result Shape Unreadable
shape_of cs = opening_at cs >>= opening_after

-- the marks of two sides are those of the whole
abbrev pub joined : Mark → Mark → Mark
joined a b = record { uncertain = a.uncertain || b.uncertain; approximate = a.approximate || b.approximate }

abbrev pub mark_of : Shape → Mark
mark_of (One a) = a.mark
mark_of (Since a) = a.mark
mark_of (Until b) = b.mark
mark_of (Range a b) = joined a.mark b.mark

-- what the sides mean, or the fault of the first faulty side
abbrev pub value_of : Shape → Result DateValue TypeErrorKind
value_of (One a) = a.datetime >>= λ d. Ok (values.At d)
value_of (Since a) = a.datetime >>= λ d. Ok (values.After d)
value_of (Until b) = b.datetime >>= λ d. Ok (values.Before d)
value_of (Range a b) = a.datetime >>= λ c. b.datetime >>= λ d. Ok (values.Between c d)

abbrev pub marked : Mark → DateValue → Date
marked m v = record { value = v; uncertain = m.uncertain; approximate = m.approximate }

-- the date that a text of the shape means, or its fault
abbrev pub date_of : Result Shape Unreadable → Result Date TypeErrorKind
date_of (Ok s) = value_of s >>= λ v. Ok (marked (mark_of s) v)
date_of (Err e) = Err InvalidFormat
