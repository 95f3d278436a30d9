-- How a date is written, as a grammar by cases. Each relation takes a text, what is spelled from its first character on, and the
-- text that follows. Characters are numbers.
use Rattle.std.specs.Prelude.{◌≡◌, ℕ, ◌≤◌, Bool, true, false, ◌⊎◌, List, [], ◌∷◌, ◌++◌, length, Option, Some, None}
use Rattle.std.specs.Char.{is_ascii_digit}
use Rattle.std.specs.Str.Parse.{digits_value}
use Rattle.laws.specs.Characters.{percent_sign, plus_sign, hyphen, full_stop, slash, colon, question_mark, upper_t, upper_z, tilde, no_break_space}
use Rattle.laws.specs.Runs.{AllPassTest}
use Rattle.biblatex_dates.specs.declared.datetime.Time.{Time}
use Rattle.biblatex_dates.specs.declared.datetime.TimeOffset.{TimeOffset}
use Rattle.biblatex_dates.specs.declared.datetime.TimeOffset.TheVariants.{Utc, Offset}

-- a text, what it spells, and the text that follows
abbrev pub Spells : Type 0 → Type 1
Spells X = List ℕ → X → List ℕ → Type 0

-- A side as it is written: whether its year is negative, the digits of the year, its month and its day, which count from one,
-- its time, and what its mark says.
pub record Written : Type 0 where
  pub negative : Bool
  pub year : List ℕ
  pub month : Option ℕ
  pub day : Option ℕ
  pub time : Option Time
  pub uncertain : Bool
  pub approximate : Bool

-- Digits, then what follows them, which may begin with a digit too.
abbrev pub AreDigits : Spells (List ℕ)
AreDigits cs t rest = (cs ≡ t ++ rest) × AllPassTest is_ascii_digit t

-- A number of at least and at most so many digits.
abbrev pub IsNumber : ℕ → ℕ → Spells ℕ
IsNumber least most cs n rest = (t : List ℕ) × AreDigits cs t rest × (least ≤ length t) × (length t ≤ most) × (n ≡ digits_value 10 t)

-- A negative year has a hyphen before it.
abbrev pub IsSign : Spells Bool
IsSign cs true rest = cs ≡ hyphen ∷ rest
IsSign cs false rest = cs ≡ rest

-- A year has one digit or more.
abbrev pub IsYear : Spells (List ℕ)
IsYear cs t rest = AreDigits cs t rest × (1 ≤ length t)

-- A month or a day is a hyphen and one or two digits, or nothing.
abbrev pub IsPart : Spells (Option ℕ)
IsPart cs None rest = cs ≡ rest
IsPart cs (Some n) rest = (a : List ℕ) × (cs ≡ hyphen ∷ a) × IsNumber 1 2 a n rest

-- A day stands only after a month.
abbrev pub IsDay : Option ℕ → Spells (Option ℕ)
IsDay None cs None rest = cs ≡ rest
IsDay None cs (Some d) rest = ⊥
IsDay (Some m) cs day rest = IsPart cs day rest

-- Hours and minutes are two digits, a colon and two digits.
abbrev pub IsMinutes : Spells (ℕ × ℕ)
IsMinutes cs t rest = (a : List ℕ) × IsNumber 2 2 cs t.0 (colon ∷ a) × IsNumber 2 2 a t.1 rest

-- Seconds are a colon and two digits; where nothing is written there are none.
abbrev pub IsSeconds : Spells ℕ
IsSeconds cs n rest = ((a : List ℕ) × (cs ≡ colon ∷ a) × IsNumber 2 2 a n rest) ⊎ ((cs ≡ rest) × (n ≡ 0))

-- the sign of an offset
abbrev pub offset_sign : Bool → ℕ
offset_sign true = plus_sign
offset_sign false = hyphen

-- An offset is `Z`, or a sign, hours and minutes, or nothing.
abbrev pub IsOffset : Spells (Option TimeOffset)
IsOffset cs None rest = cs ≡ rest
IsOffset cs (Some Utc) rest = cs ≡ upper_z ∷ rest
IsOffset cs (Some (Offset positive hours minutes)) rest = (a : List ℕ) × (cs ≡ offset_sign positive ∷ a) × IsMinutes a (hours, minutes) rest

-- Hours and minutes, seconds and an offset.
abbrev pub IsClock : Spells Time
IsClock cs t rest = (a : List ℕ) × (b : List ℕ) × IsMinutes cs (t.hour, t.minute) a × IsSeconds a t.second b × IsOffset b t.offset rest

-- A time is `T` and what a clock shows, or nothing; it stands only after a day.
abbrev pub IsTime : Option ℕ → Spells (Option Time)
IsTime day cs None rest = cs ≡ rest
IsTime None cs (Some t) rest = ⊥
IsTime (Some d) cs (Some t) rest = (a : List ℕ) × (cs ≡ upper_t ∷ a) × IsClock a t rest

-- A question mark is uncertain, a tilde and a space that does not break are approximate, a percent sign is both; without a mark a
-- side is neither.
abbrev pub IsMark : Spells (Bool × Bool)
IsMark cs (true, false) rest = cs ≡ question_mark ∷ rest
IsMark cs (false, true) rest = (cs ≡ tilde ∷ rest) ⊎ (cs ≡ no_break_space ∷ rest)
IsMark cs (true, true) rest = cs ≡ percent_sign ∷ rest
IsMark cs (false, false) rest = cs ≡ rest

-- A side is a sign, a year, a month, a day, a time and a mark.
abbrev pub IsSide : Spells Written
IsSide cs w rest = (a : List ℕ) × (b : List ℕ) × (c : List ℕ) × (d : List ℕ) × (e : List ℕ)
    × IsSign cs w.negative a × IsYear a w.year b × IsPart b w.month c × IsDay w.month c w.day d × IsTime w.day d w.time e
    × IsMark e (w.uncertain, w.approximate) rest

-- A date by its sides: one alone, one with an open end, one with an open start, or two.
pub data Sides : Type 0 where
  one : Written → Sides
  since : Written → Sides
  until : Written → Sides
  both : Written → Written → Sides

-- An open start or end is two points or nothing.
abbrev pub IsOpen : List ℕ → List ℕ → Type 0
IsOpen cs rest = (cs ≡ full_stop ∷ full_stop ∷ rest) ⊎ (cs ≡ rest)

-- The whole text is these sides, with a slash between two of them and between a side and an open start or end.
abbrev pub IsDate : List ℕ → Sides → Type 0
IsDate cs (one w) = IsSide cs w []
IsDate cs (since w) = (a : List ℕ) × IsSide cs w (slash ∷ a) × IsOpen a []
IsDate cs (until w) = (a : List ℕ) × IsOpen cs (slash ∷ a) × IsSide a w []
IsDate cs (both v w) = (a : List ℕ) × IsSide cs v (slash ∷ a) × IsSide a w []
