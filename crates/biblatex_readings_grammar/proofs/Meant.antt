-- What is made of sides is what they mean, and nothing else is.
use Rattle.std.proofs.Common.{◌≡◌, ℕ, zero, suc, ◌+◌, ◌-◌, ◌≤◌, Bool, true, false, true≢false, cond, ◌||◌, eqb, List, length, Option, Some, None, Result, Ok, Err, ℤ, pos, neg_ℤ, refl, sym, ap, ◌∙◌, subst, inl, inr, arith}
use Rattle.std.proofs.lemmas.Bool.{eqb-true, eqb-false}
use Rattle.std.specs.Prelude.{unsigned_abs}
use Rattle.std.specs.Int.{is_in_range}
use Rattle.std.specs.Option.{option_map}
use Rattle.std.specs.Str.Parse.{digits_value}
use Rattle.laws.specs.Results.{◌>>=◌}
use Rattle.date_parts.specs.Calendar.{has_day}
use Rattle.date_parts.specs.Dates.{year_alone, in_month, on_day, of_month, of_year}
use Rattle.date_parts.specs.Parts as parts
use Rattle.date_parts.specs.declared.dates.OutOfRange.TheVariants as fault
use Rattle.biblatex_dates.specs.Datetime as datetime
use Rattle.biblatex_dates.specs.Side.{four}
use Rattle.biblatex_dates.specs.declared.date.Date.{Date}
use Rattle.biblatex_dates.specs.declared.date.DateValue.{DateValue}
use Rattle.biblatex_dates.specs.declared.date.DateValue.TheVariants.{At, After, Before, Between}
use Rattle.biblatex_dates.specs.declared.datetime.Datetime.{Datetime}
use Rattle.biblatex_dates.specs.declared.datetime.Time.{Time}
use Rattle.biblatex_dates.specs.declared.error.TypeErrorKind.{TypeErrorKind}
use Rattle.biblatex_dates.specs.declared.error.TypeErrorKind.TheVariants.{InvalidFormat, WrongNumberOfDigits, MonthOutOfRange, DayOutOfRange, Unreadable}
use Rattle.biblatex_readings_grammar.specs.Sides.{Written, Sides, one, since, until, both, IsDay, IsTime, IsSide, IsDate}
use Rattle.biblatex_readings_grammar.specs.Calendar.{IsMonth, IsSeason, HasDay}
use Rattle.biblatex_readings_grammar.specs.Meaning.{signed, year_number, YearIsGood, MonthIsGood, DayIsGood, IsGood, IsFaulty, Counts, IsAlone, MeansPart, MeansSide, MeansValue, MeansDate, HasFault, is_uncertain, is_approximate}
use Rattle.biblatex_readings_grammar.proofs.Days.{in_range, out_of_range, day-true, day-false}
use Rattle.biblatex_readings_grammar.proofs.Written.{meant, answer}

-- a side without a day has no time
abbrev pub IsDated : Written → Type 0
IsDated w = w.day ≡ None → w.time ≡ None

-- what a side means, or its fault
abbrev pub Outcome : Written → Result Datetime TypeErrorKind → Type 0
Outcome w (Ok d) = MeansSide w d
Outcome w (Err f) = IsFaulty w f

same_sign : (n : Bool) (k : ℕ) → parts.signed n k ≡ signed n k
same_sign true k = refl
same_sign false k = refl

far : (n : Bool) (k : ℕ) → unsigned_abs (parts.signed n k) ≡ k
far false k = refl
far true zero = refl
far true (suc k) = refl

abbrev told : Bool → List ℕ → Option ℕ → Option ℕ → Option Time → Bool → Bool → Written
told n ds month day time u a = record { negative = n; year = ds; month = month; day = day; time = time; uncertain = u; approximate = a }

one_more : (m : ℕ) → 1 ≤ m → m ≡ m - 1 + 1
one_more m some = omega arith

no-month : (m : ℕ) → is_in_range 21 24 m ≡ false → is_in_range 1 12 m ≡ false → MonthIsGood (Some m) → ⊥
no-month m season month (inl (some, few)) = out_of_range 1 12 m month some few
no-month m season month (inr (some, few)) = out_of_range 21 24 m season some few

no-day : (y m d : ℕ) → is_in_range 21 24 m ≡ false → (HasDay y m d → ⊥) → DayIsGood y (Some m) (Some d) → ⊥
no-day y m d season none (inl (some, few)) = out_of_range 21 24 m season some few
no-day y m d season none (inr has) = none has

day-good : (y m : ℕ) (day : Option ℕ) → IsSeason m → DayIsGood y (Some m) day
day-good y m None season = tt
day-good y m (Some d) season = inl season

month-outcome : (n : Bool) (ds : List ℕ) (m : ℕ) (day : Option ℕ) (time : Option Time) (u a : Bool) → length ds ≡ 4 → (day ≡ None → time ≡ None) → is_in_range 21 24 m ≡ false → is_in_range 1 12 m ≡ true
    → Outcome (told n ds (Some m) day time u a) (datetime.meant time (of_month (parts.signed n (digits_value 10 ds)) m day))
month-outcome n ds m None time u a good timed season month =
    let is : IsMonth m = in_range 1 12 m month in
    ((good, inl is, tt), same_sign n (digits_value 10 ds), inr (is, (m - 1, one_more m is.0, refl), refl, sym (timed refl)))
month-outcome n ds m (Some d) time u a good timed season month = by_day (has_day (parts.signed n y) m d) refl
  where
    y : ℕ
    y = digits_value 10 ds

    by_day : (b : Bool) → has_day (parts.signed n y) m d ≡ b → Outcome (told n ds (Some m) (Some d) time u a) (datetime.meant time (cond b (Ok (on_day (parts.signed n y) m d)) (Err fault.Day)))
    by_day true e =
        let is : IsMonth m = in_range 1 12 m month in
        let has : HasDay y m d = day-true (parts.signed n y) y m d (far n y) e in
        ((good, inl is, inr has), same_sign n y, inr (is, (m - 1, one_more m is.0, refl), (d - 1, one_more d has.0, refl), refl))
    by_day false e = (good, inl (in_range 1 12 m month), no-day y m d season (day-false (parts.signed n y) y m d (far n y) e))

year-outcome : (n : Bool) (ds : List ℕ) (month day : Option ℕ) (time : Option Time) (u a : Bool) → length ds ≡ 4 → (day ≡ None → time ≡ None)
    → Outcome (told n ds month day time u a) (datetime.meant time (of_year (parts.signed n (digits_value 10 ds)) month day))
year-outcome n ds None day time u a good timed = ((good, tt, tt), same_sign n (digits_value 10 ds), (refl, refl, refl))
year-outcome n ds (Some m) day time u a good timed = by_tests (is_in_range 21 24 m) (is_in_range 1 12 m) refl refl
  where
    y : ℤ
    y = parts.signed n (digits_value 10 ds)

    by_tests : (season month : Bool) → is_in_range 21 24 m ≡ season → is_in_range 1 12 m ≡ month
        → Outcome (told n ds (Some m) day time u a) (datetime.meant time (cond season (Ok (year_alone y)) (cond month (of_month y m day) (Err fault.Month))))
    by_tests true month is f =
        let s : IsSeason m = in_range 21 24 m is in
        ((good, inr s, day-good (digits_value 10 ds) m day s), same_sign n (digits_value 10 ds), inl (s, (refl, refl, refl)))
    by_tests false true f is = month-outcome n ds m day time u a good timed f is
    by_tests false false f g = (good, no-month m f g)

pub outcome : (w : Written) → IsDated w → Outcome w (meant w)
outcome w timed = by_four (eqb (length w.year) 4) refl
  where
    by_four : (b : Bool) → eqb (length w.year) 4 ≡ b → Outcome w (datetime.datetime_of (option_map (parts.signed w.negative) (cond b (Some (digits_value 10 w.year)) None)) w.month w.day w.time)
    by_four true e = year-outcome w.negative w.year w.month w.day w.time w.uncertain w.approximate (eqb-true (length w.year) 4 e) timed
    by_four false e = eqb-false (length w.year) 4 e

less : (n k : ℕ) → n ≡ k + 1 → k ≡ n - 1
less n k e = omega arith

counts-same : (o x y : Option ℕ) → Counts o x → Counts o y → x ≡ y
counts-same None x y e f = e ∙ sym f
counts-same (Some n) x y (j, e, f) (k, g, h) = f ∙ (ap (λ (i : ℕ). Some i) (less n j e ∙ sym (less n k g)) ∙ sym h)

same : (c d : Datetime) → c.year ≡ d.year → c.month ≡ d.month → c.day ≡ d.day → c.time ≡ d.time → c ≡ d
same c d e f g h = λ i. record { year = e i; month = f i; day = g i; time = h i }

apart : (m : ℕ) → IsSeason m → IsMonth m → ⊥
apart m (low, high) (low', high') = omega arith

part-same : (w : Written) (month : Option ℕ) (c d : Datetime) → c.year ≡ d.year → MeansPart w month c → MeansPart w month d → c ≡ d
part-same w None c d e (f, g, h) (f', g', h') = same c d e (f ∙ sym f') (g ∙ sym g') (h ∙ sym h')
part-same w (Some m) c d e (inl (is, (f, g, h))) (inl (is', (f', g', h'))) = same c d e (f ∙ sym f') (g ∙ sym g') (h ∙ sym h')
part-same w (Some m) c d e (inl (season, alone)) (inr (month, f, g, h)) = absurd (apart m season month)
part-same w (Some m) c d e (inr (month, f, g, h)) (inl (season, alone)) = absurd (apart m season month)
part-same w (Some m) c d e (inr (is, f, g, h)) (inr (is', f', g', h')) = same c d e (counts-same (Some m) c.month d.month f f') (counts-same w.day c.day d.day g g') (h ∙ sym h')

pub means-same : (w : Written) (c d : Datetime) → MeansSide w c → MeansSide w d → c ≡ d
means-same w c d (good, e, f) (good', g, h) = part-same w w.month c d (e ∙ sym g) f h

pub not-both : (w : Written) (f : TypeErrorKind) → IsGood w → IsFaulty w f → ⊥
not-both w WrongNumberOfDigits (year, month, day) is = is year
not-both w MonthOutOfRange (year, month, day) is = is.1 month
not-both w DayOutOfRange (year, month, day) is = is.2 day
not-both w InvalidFormat good is = is
not-both w Unreadable good is = is

pub fault-same : (w : Written) (f g : TypeErrorKind) → IsFaulty w f → IsFaulty w g → f ≡ g
fault-same w WrongNumberOfDigits WrongNumberOfDigits is other = refl
fault-same w WrongNumberOfDigits MonthOutOfRange is other = absurd (is other.0)
fault-same w WrongNumberOfDigits DayOutOfRange is other = absurd (is other.0)
fault-same w WrongNumberOfDigits InvalidFormat is other = absurd other
fault-same w WrongNumberOfDigits Unreadable is other = absurd other
fault-same w MonthOutOfRange WrongNumberOfDigits is other = absurd (other is.0)
fault-same w MonthOutOfRange MonthOutOfRange is other = refl
fault-same w MonthOutOfRange DayOutOfRange is other = absurd (is.1 other.1)
fault-same w MonthOutOfRange InvalidFormat is other = absurd other
fault-same w MonthOutOfRange Unreadable is other = absurd other
fault-same w DayOutOfRange WrongNumberOfDigits is other = absurd (other is.0)
fault-same w DayOutOfRange MonthOutOfRange is other = absurd (other.1 is.1)
fault-same w DayOutOfRange DayOutOfRange is other = refl
fault-same w DayOutOfRange InvalidFormat is other = absurd other
fault-same w DayOutOfRange Unreadable is other = absurd other
fault-same w InvalidFormat g is other = absurd is
fault-same w Unreadable g is other = absurd is
