-- What is read exists.
use Rattle.std.proofs.Common.{◌≡◌, ℕ, zero, suc, ◌+◌, ◌-◌, ◌^◌, ◌<◌, ◌≤◌, Bool, true, false, cond, ◌&&◌, List, [], ◌∷◌, length, Option, Some, None, Result, Ok, Err, ℤ, refl, subst, arith, leb, eqb}
use Rattle.std.specs.Prelude.{unsigned_abs, IfOk, IfSome}
use Rattle.std.specs.Int.{is_in_range}
use Rattle.std.specs.Option.{option_map}
use Rattle.std.specs.Str.Parse.{digits_value}
use Rattle.std.proofs.lemmas.Bool.{leb-true, eqb-true, and_parts}
use Rattle.std.proofs.lemmas.Bool.Decides.{nat_tests}
use Rattle.jiff.specs.Words.{days_in_month}
use Rattle.laws.specs.Characters.{plus_sign, hyphen, full_stop, slash, colon, upper_t, upper_z}
use Rattle.laws.specs.Results.{◌>>=◌}
use Rattle.laws.specs.Runs.{prefix_of, after}
use Rattle.laws.proofs.Results.{bind_if_ok}
use Rattle.texts.specs.Character.{passes}
use Rattle.texts.specs.Reading.{digits_at, token_at, end_at, taken}
use Rattle.texts.specs.declared.character.Class.TheVariants.{Digit}
use Rattle.texts.specs.declared.reader.Unreadable.{Unreadable}
use Rattle.texts.specs.declared.reader.Unreadable.TheVariants.{NotThere}
use Rattle.date_parts.specs.Calendar.{has_day}
use Rattle.date_parts.specs.Dates.{of_month, of_year, in_month, on_day, year_alone}
use Rattle.date_parts.specs.declared.dates.OutOfRange.TheVariants.{Month, Day}
use Rattle.biblatex_dates.specs.Datetime.{at_time, meant, datetime_of}
use Rattle.biblatex_dates.specs.Shape.{opening_at, last_at, slash_after, first_after, opening_after, shape_of, value_of, date_of}
use Rattle.date_parts.specs.Parts.{part_at, signed}
use Rattle.biblatex_dates.specs.Side.{four, four_at, year_at, minutes_at, seconds_after, signed_offset_at, offset_at, clock_at, clock_after, time_at, side_at}
use Rattle.biblatex_dates.specs.Written.{IsOffset, IsTime, Exists, SidesExist}
use Rattle.biblatex_dates.specs.declared.date.Date.{Date}
use Rattle.biblatex_dates.specs.declared.datetime.Time.{Time}
use Rattle.biblatex_dates.specs.declared.datetime.TimeOffset.{TimeOffset}
use Rattle.biblatex_dates.specs.declared.datetime.TimeOffset.TheVariants.{Utc}
use Rattle.biblatex_dates.specs.declared.shape.Shape.{Shape}
use Rattle.biblatex_dates.specs.declared.shape.Shape.TheVariants.{One, Since, Until, Range}
use Rattle.biblatex_dates.specs.declared.side.Side.{Side}
use Rattle.texts.proofs.ReadingBounds.{run_below}

-- a year that is one of four digits
abbrev pub IsYear : ℤ → Type 0
IsYear y = unsigned_abs y ≤ 9999

four_small : (ds : List ℕ) → (length ds ≤ 4 → digits_value 10 ds < 10000) → IfSome (four ds) (λ n. n < 10000)
four_small ds small = by_test (eqb (length ds) 4) refl
  where
    by_test : (b : Bool) → eqb (length ds) 4 ≡ b → IfSome (cond b (Some (digits_value 10 ds)) None) (λ n. n < 10000)
    by_test true e = small (omega (arith, eqb-true _ _ e))
    by_test false e = tt

four_at_small : (cs : List ℕ) → IfOk (four_at cs) (λ p. IfSome p.0 (λ n. n < 10000))
four_at_small cs = by_test (four_small (prefix_of (passes Digit) cs) (run_below cs 4)) (eqb (length (prefix_of (passes Digit) cs)) 0)
  where
    by_test : IfSome (four (prefix_of (passes Digit) cs)) (λ n. n < 10000) → (b : Bool) → IfOk {T = Option ℕ × List ℕ} (cond b (Err NotThere) (Ok (four (prefix_of (passes Digit) cs), after (passes Digit) cs))) (λ p. IfSome p.0 (λ n. n < 10000))
    by_test small true = tt
    by_test small false = small

pub signed_small : (is_negative : Bool) (n : ℕ) → n < 10000 → IsYear (signed is_negative n)
signed_small false n small = omega arith
signed_small true zero small = omega arith
signed_small true (suc n) small = omega arith

option_small : (is_negative : Bool) (o : Option ℕ) → IfSome o (λ n. n < 10000) → IfSome (option_map (signed is_negative) o) IsYear
option_small is_negative None small = tt
option_small is_negative (Some n) small = signed_small is_negative n small

year_small : (is_negative : Bool) (cs : List ℕ) → IfOk (year_at is_negative cs) (λ p. IfSome p.0 IsYear)
year_small is_negative cs =
    bind_if_ok (λ (p : Option ℕ × List ℕ). IfSome p.0 (λ n. n < 10000)) (λ (p : Option ℤ × List ℕ). IfSome p.0 IsYear) (four_at cs) (λ y. Ok (option_map (signed is_negative) y.0, y.1)) (four_at_small cs) (λ y small. option_small is_negative y.0 small)

-- a number of at most so many digits is below that power of ten
pub digits_small : (least most : ℕ) (cs : List ℕ) → IfOk (digits_at least most cs) (λ p. p.0 < 10 ^ most)
digits_small least most cs = by_test (leb least (length (prefix_of (passes Digit) cs)) && leb (length (prefix_of (passes Digit) cs)) most) refl
  where
    by_test : (b : Bool) → leb least (length (prefix_of (passes Digit) cs)) && leb (length (prefix_of (passes Digit) cs)) most ≡ b
        → IfOk {T = ℕ × List ℕ} (cond b (Ok (digits_value 10 (prefix_of (passes Digit) cs), after (passes Digit) cs)) (Err NotThere)) (λ p. p.0 < 10 ^ most)
    by_test true e = run_below cs most (leb-true _ _ (and_parts (leb least (length (prefix_of (passes Digit) cs))) (leb (length (prefix_of (passes Digit) cs)) most) e).1)
    by_test false e = tt

abbrev AreTwo : (ℕ × ℕ) × List ℕ → Type 0
AreTwo p = (p.0.0 < 100) × (p.0.1 < 100)

-- what holds of any value of a step
pub any_ok : {F A : Type 0} (r : Result A F) → IfOk r (λ x. Unit {0})
any_ok (Ok x) = tt
any_ok (Err e) = tt

minutes_small : (cs : List ℕ) → IfOk (minutes_at cs) AreTwo
unfolding minutes_at
minutes_small cs =
    bind_if_ok (λ (h : ℕ × List ℕ). h.0 < 100) AreTwo (digits_at 2 2 cs) _ (digits_small 2 2 cs) (λ h h_small.
    bind_if_ok (λ (c : List ℕ). Unit {0}) AreTwo (token_at colon h.1) _ (any_ok (token_at colon h.1)) (λ c u.
    bind_if_ok (λ (m : ℕ × List ℕ). m.0 < 100) AreTwo (digits_at 2 2 c) _ (digits_small 2 2 c) (λ m m_small. (h_small, m_small))))

seconds_small : (p : Bool × List ℕ) → IfOk (seconds_after p) (λ q. q.0 < 100)
seconds_small (false, rest) = omega arith
seconds_small (true, rest) = digits_small 2 2 rest

signed_offset_small : (positive : Bool) (cs : List ℕ) → IfOk (signed_offset_at positive cs) (λ p. IsOffset p.0)
signed_offset_small positive cs =
    bind_if_ok AreTwo (λ (p : Option TimeOffset × List ℕ). IsOffset p.0) (minutes_at cs) _ (minutes_small cs) (λ t small. small)

offset_small : (cs : List ℕ) → IfOk (offset_at cs) (λ p. IsOffset p.0)
offset_small [] = tt
offset_small (c ∷ cs) = by_test (eqb c upper_z) (eqb c plus_sign) (eqb c hyphen)
  where
    by_test : (a b d : Bool) → IfOk (cond a (Ok (Some Utc, cs)) (cond b (signed_offset_at true cs) (cond d (signed_offset_at false cs) (Ok (None, c ∷ cs))))) (λ p. IsOffset p.0)
    by_test true b d = tt
    by_test false true d = signed_offset_small true cs
    by_test false false true = signed_offset_small false cs
    by_test false false false = tt

clock_small : (cs : List ℕ) → IfOk (clock_at cs) (λ p. IsTime (Some p.0))
unfolding clock_at
clock_small cs =
    bind_if_ok AreTwo (λ (p : Time × List ℕ). IsTime (Some p.0)) (minutes_at cs) _ (minutes_small cs) (λ m m_small.
    bind_if_ok (λ (q : ℕ × List ℕ). q.0 < 100) (λ (p : Time × List ℕ). IsTime (Some p.0)) (seconds_after (taken colon m.1)) _ (seconds_small (taken colon m.1)) (λ s s_small.
    bind_if_ok (λ (p : Option TimeOffset × List ℕ). IsOffset p.0) (λ (p : Time × List ℕ). IsTime (Some p.0)) (offset_at s.1) _ (offset_small s.1) (λ o o_small. (m_small.0, m_small.1, s_small, o_small))))

clock_after_small : (p : Bool × List ℕ) → IfOk (clock_after p) (λ q. IsTime q.0)
clock_after_small (false, rest) = tt
clock_after_small (true, rest) =
    bind_if_ok (λ (p : Time × List ℕ). IsTime (Some p.0)) (λ (q : Option Time × List ℕ). IsTime q.0) (clock_at rest) _ (clock_small rest) (λ t small. small)

time_small : (day : Option ℕ) (cs : List ℕ) → IfOk (time_at day cs) (λ q. IsTime q.0)
time_small None cs = tt
time_small (Some d) cs = clock_after_small (taken upper_t cs)

day_in : (d n : ℕ) → is_in_range 1 n d ≡ true → d - 1 < n
day_in d n e = grind (arith, nat_tests)

month_in : (m : ℕ) → is_in_range 1 12 m ≡ true → (m - 1 < 12) × (m ≡ m - 1 + 1)
month_in m e = (grind (arith, nat_tests), grind (arith, nat_tests))

-- a month of the year, and a day of the month
pub month_exists : (y : ℤ) (m : ℕ) (time : Option Time) → IsYear y → is_in_range 1 12 m ≡ true → Exists (at_time time (in_month y m))
month_exists y m time small e = (small, ((month_in m e).0, tt))

pub day_exists : (y : ℤ) (m d : ℕ) (time : Option Time) → IsYear y → is_in_range 1 12 m ≡ true → has_day y m d ≡ true → IsTime time → Exists (at_time time (on_day y m d))
day_exists y m d time small e has is =
    let n = month_in m e in
    let below : d - 1 < days_in_month y m = day_in d (days_in_month y m) has in
    (small, (n.0, (subst (λ (k : ℕ). d - 1 < days_in_month y k) n.1 below, is)))

of_month_exists : (y : ℤ) (m : ℕ) (day : Option ℕ) (time : Option Time) → IsYear y → is_in_range 1 12 m ≡ true → IsTime time → IfOk (meant time (of_month y m day)) Exists
of_month_exists y m None time small e is = month_exists y m time small e
of_month_exists y m (Some d) time small e is = by_test (has_day y m d) refl
  where
    by_test : (b : Bool) → has_day y m d ≡ b → IfOk (meant time (cond b (Ok (on_day y m d)) (Err Day))) Exists
    by_test true has = day_exists y m d time small e has is
    by_test false has = tt

of_year_exists : (y : ℤ) (month day : Option ℕ) (time : Option Time) → IsYear y → IsTime time → IfOk (meant time (of_year y month day)) Exists
of_year_exists y None day time small is = (small, tt)
of_year_exists y (Some m) day time small is = by_tests (is_in_range 21 24 m) (is_in_range 1 12 m) refl
  where
    by_tests : (a b : Bool) → is_in_range 1 12 m ≡ b → IfOk (meant time (cond a (Ok (year_alone y)) (cond b (of_month y m day) (Err Month)))) Exists
    by_tests true b e = (small, tt)
    by_tests false true e = of_month_exists y m day time small e is
    by_tests false false e = tt

datetime_exists : (year : Option ℤ) (month day : Option ℕ) (time : Option Time) → IfSome year IsYear → IsTime time → IfOk (datetime_of year month day time) Exists
datetime_exists None month day time small is = tt
datetime_exists (Some y) month day time small is = of_year_exists y month day time small is

-- what a side means exists
abbrev IsSide : Side → Type 0
IsSide s = IfOk s.datetime Exists

side_exists : (cs : List ℕ) → IfOk (side_at cs) (λ p. IsSide p.0)
unfolding side_at
side_exists cs =
    bind_if_ok (λ (p : Option ℤ × List ℕ). IfSome p.0 IsYear) (λ (p : Side × List ℕ). IsSide p.0) (year_at (taken hyphen cs).0 (taken hyphen cs).1) _ (year_small (taken hyphen cs).0 (taken hyphen cs).1) (λ year small.
    bind_if_ok (λ (p : Option ℕ × List ℕ). Unit {0}) (λ (p : Side × List ℕ). IsSide p.0) (part_at year.1) _ (any_ok (part_at year.1)) (λ month u.
    bind_if_ok (λ (p : Option ℕ × List ℕ). Unit {0}) (λ (p : Side × List ℕ). IsSide p.0) (part_at month.1) _ (any_ok (part_at month.1)) (λ day v.
    bind_if_ok (λ (p : Option Time × List ℕ). IsTime p.0) (λ (p : Side × List ℕ). IsSide p.0) (time_at day.0 day.1) _ (time_small day.0 day.1) (λ time is.
    datetime_exists year.0 month.0 day.0 time.0 small is))))

last_exists : (cs : List ℕ) → IfOk (last_at cs) IsSide
last_exists cs =
    bind_if_ok (λ (p : Side × List ℕ). IsSide p.0) IsSide (side_at cs) _ (side_exists cs) (λ s is.
    bind_if_ok (λ (rest : List ℕ). Unit {0}) IsSide (end_at s.1) _ (any_ok (end_at s.1)) (λ rest u. is))

-- what the sides mean exists
abbrev IsShape : Shape → Type 0
IsShape (One a) = IsSide a
IsShape (Since a) = IsSide a
IsShape (Until b) = IsSide b
IsShape (Range a b) = IsSide a × IsSide b

slash_exists : (a : Side) (cs : List ℕ) → IsSide a → IfOk (slash_after a cs) IsShape
slash_exists a [] is = is
slash_exists a (c ∷ cs) is = by_test (eqb c full_stop)
  where
    by_test : (b : Bool) → IfOk (cond b (token_at full_stop cs >>= λ points. end_at points >>= λ rest. Ok (Since a)) (last_at (c ∷ cs) >>= λ s. Ok (Range a s))) IsShape
    by_test true =
        bind_if_ok (λ (points : List ℕ). Unit {0}) IsShape (token_at full_stop cs) _ (any_ok (token_at full_stop cs)) (λ points u.
        bind_if_ok (λ (rest : List ℕ). Unit {0}) IsShape (end_at points) _ (any_ok (end_at points)) (λ rest v. is))
    by_test false = bind_if_ok IsSide IsShape (last_at (c ∷ cs)) _ (last_exists (c ∷ cs)) (λ s also. (is, also))

first_exists : (a : Side) (p : Bool × List ℕ) → IsSide a → IfOk (first_after a p) IsShape
first_exists a (false, rest) is = bind_if_ok (λ (r : List ℕ). Unit {0}) IsShape (end_at rest) _ (any_ok (end_at rest)) (λ r u. is)
first_exists a (true, rest) is = slash_exists a rest is

opening_exists : (p : Bool × List ℕ) → IfOk (opening_after p) IsShape
opening_exists (true, rest) = bind_if_ok IsSide IsShape (last_at rest) _ (last_exists rest) (λ b is. is)
opening_exists (false, rest) = bind_if_ok (λ (p : Side × List ℕ). IsSide p.0) IsShape (side_at rest) _ (side_exists rest) (λ a is. first_exists a.0 (taken slash a.1) is)

shape_exists : (cs : List ℕ) → IfOk (shape_of cs) IsShape
unfolding shape_of
shape_exists cs = bind_if_ok (λ (p : Bool × List ℕ). Unit {0}) IsShape (opening_at cs) _ (any_ok (opening_at cs)) (λ p u. opening_exists p)

value_exists : (s : Shape) → IsShape s → IfOk (value_of s) SidesExist
value_exists (One a) is = bind_if_ok Exists SidesExist a.datetime _ is (λ d e. e)
value_exists (Since a) is = bind_if_ok Exists SidesExist a.datetime _ is (λ d e. e)
value_exists (Until b) is = bind_if_ok Exists SidesExist b.datetime _ is (λ d e. e)
value_exists (Range a b) is = bind_if_ok Exists SidesExist a.datetime _ is.0 (λ c e. bind_if_ok Exists SidesExist b.datetime _ is.1 (λ d f. (e, f)))

-- the sides of a date exist
abbrev pub IsDate : Date → Type 0
IsDate d = SidesExist d.value

of_shape_exists : (r : Result Shape Unreadable) → IfOk r IsShape → IfOk (date_of r) IsDate
of_shape_exists (Ok s) is = bind_if_ok SidesExist IsDate (value_of s) _ (value_exists s is) (λ v e. e)
of_shape_exists (Err e) is = tt

pub date_exists : (cs : List ℕ) → IfOk (date_of (shape_of cs)) IsDate
date_exists cs = of_shape_exists (shape_of cs) (shape_exists cs)
