-- What is read of a date, with the digits of its years, before it is told what this means.
use Rattle.std.proofs.Common.{◌≡◌, ℕ, Bool, true, false, cond, eqb, List, [], ◌∷◌, length, Option, Some, None, Result, Ok, Err, ℤ, ◌||◌, refl, sym, ap, ◌∙◌, subst}
use Rattle.std.proofs.lemmas.Bool.{eqb-true}
use Rattle.std.specs.Option.{option_map}
use Rattle.laws.specs.Characters.{hyphen, full_stop, slash}
use Rattle.laws.specs.Results.{◌>>=◌}
use Rattle.laws.specs.Runs.{prefix_of, after}
use Rattle.texts.specs.Character.{passes}
use Rattle.texts.specs.Reading.{token_at, end_at, taken}
use Rattle.texts.specs.declared.character.Class.TheVariants.{Digit}
use Rattle.texts.specs.declared.reader.Unreadable.{Unreadable}
use Rattle.texts.specs.declared.reader.Unreadable.TheVariants.{NotThere}
use Rattle.date_parts.specs.Parts.{part_at}
use Rattle.date_parts.specs.Parts as parts
use Rattle.biblatex_dates.specs.Datetime.{datetime_of}
use Rattle.biblatex_dates.specs.Side.{four, four_at, year_at, time_at, mark_at, side_at}
use Rattle.biblatex_dates.specs.Shape.{opening_at, last_at, slash_after, first_after, opening_after, shape_of, date_of}
use Rattle.biblatex_dates.specs.declared.date.Date.{Date}
use Rattle.biblatex_dates.specs.declared.date.DateValue.{DateValue}
use Rattle.biblatex_dates.specs.declared.date.DateValue.TheVariants.{At, After, Before, Between}
use Rattle.biblatex_dates.specs.declared.datetime.Datetime.{Datetime}
use Rattle.biblatex_dates.specs.declared.datetime.Time.{Time}
use Rattle.biblatex_dates.specs.declared.error.TypeErrorKind.{TypeErrorKind}
use Rattle.biblatex_dates.specs.declared.error.TypeErrorKind.TheVariants.{InvalidFormat}
use Rattle.biblatex_readings_grammar.specs.Sides.{Written, Sides, one, since, until, both}

-- one digit or more
abbrev pub digits_at : List ℕ → Result (List ℕ × List ℕ) Unreadable
digits_at cs = cond (eqb (length (prefix_of (passes Digit) cs)) 0) (Err NotThere) (Ok (prefix_of (passes Digit) cs, after (passes Digit) cs))

abbrev pub made : Bool → List ℕ → Option ℕ → Option ℕ → Option Time × List ℕ → Written × List ℕ
made negative year month day time = (record { negative = negative; year = year; month = month; day = day; time = time.0; uncertain = (mark_at time.1).0.uncertain; approximate = (mark_at time.1).0.approximate }, (mark_at time.1).1)

abbrev pub with_mark : Bool → List ℕ → Option ℕ → Option ℕ → Option Time × List ℕ → Result (Written × List ℕ) Unreadable
with_mark negative year month day time = Ok (made negative year month day time)

-- a side as it is written
abbrev pub with_time : Bool → List ℕ → Option ℕ → Option ℕ × List ℕ → Result (Written × List ℕ) Unreadable
with_time negative year month day = time_at day.0 day.1 >>= λ time. with_mark negative year month day.0 time

abbrev pub with_day : Bool → List ℕ → Option ℕ × List ℕ → Result (Written × List ℕ) Unreadable
with_day negative year month = part_at month.1 >>= λ day. with_time negative year month.0 day

abbrev pub with_month : Bool → List ℕ × List ℕ → Result (Written × List ℕ) Unreadable
with_month negative year = part_at year.1 >>= λ month. with_day negative year.0 month

abbrev pub written_at : List ℕ → Result (Written × List ℕ) Unreadable
written_at cs = digits_at (taken hyphen cs).1 >>= λ year. with_month (taken hyphen cs).0 year

-- a side, and the end
abbrev pub last_written : List ℕ → Result Written Unreadable
last_written cs = written_at cs >>= λ s. end_at s.1 >>= λ rest. Ok s.0

abbrev pub after_slash : Written → List ℕ → Result Sides Unreadable
after_slash a [] = Ok (since a)
after_slash a (c ∷ cs) = cond (eqb c full_stop) (token_at full_stop cs >>= λ points. end_at points >>= λ rest. Ok (since a)) (last_written (c ∷ cs) >>= λ b. Ok (both a b))

abbrev pub after_first : Written → Bool × List ℕ → Result Sides Unreadable
after_first a (false, rest) = end_at rest >>= λ rest. Ok (one a)
after_first a (true, rest) = after_slash a rest

abbrev pub after_opening : Bool × List ℕ → Result Sides Unreadable
after_opening (true, rest) = last_written rest >>= λ b. Ok (until b)
after_opening (false, rest) = written_at rest >>= λ a. after_first a.0 (taken slash a.1)

-- the sides of a date as they are written
abbrev pub sides_of : List ℕ → Result Sides Unreadable
sides_of cs = opening_at cs >>= after_opening

-- what a side means, or its fault
abbrev pub meant : Written → Result Datetime TypeErrorKind
meant w = datetime_of (option_map (parts.signed w.negative) (four w.year)) w.month w.day w.time

abbrev pub marked : Bool → Bool → Result DateValue TypeErrorKind → Result Date TypeErrorKind
marked uncertain approximate r = r >>= λ v. Ok (record { value = v; uncertain = uncertain; approximate = approximate })

abbrev pub answer : Sides → Result Date TypeErrorKind
answer (one w) = marked w.uncertain w.approximate (meant w >>= λ d. Ok (At d))
answer (since w) = marked w.uncertain w.approximate (meant w >>= λ d. Ok (After d))
answer (until w) = marked w.uncertain w.approximate (meant w >>= λ d. Ok (Before d))
answer (both w x) = marked (w.uncertain || x.uncertain) (w.approximate || x.approximate) (meant w >>= λ c. meant x >>= λ d. Ok (Between c d))

-- what the sides mean that were read
abbrev pub answered : Result Sides Unreadable → Result Date TypeErrorKind
answered (Ok s) = answer s
answered (Err e) = Err InvalidFormat

-- the type of what is read as a side
abbrev spelled : {A : Type 0} → (List ℕ → Result (A × List ℕ) Unreadable) → Type 0
spelled {A} read = A

abbrev Side : Type 0
Side = spelled side_at

-- a side as the reader keeps it
abbrev side : Written → Side
side w = record { datetime = meant w; mark = record { uncertain = w.uncertain; approximate = w.approximate } }

abbrev sided : Result (Written × List ℕ) Unreadable → Result (Side × List ℕ) Unreadable
sided r = r >>= λ p. Ok (side p.0, p.1)

abbrev side_marked : Option ℤ → Option ℕ → Option ℕ → Option Time × List ℕ → Result (Side × List ℕ) Unreadable
side_marked year month day time = Ok (record { datetime = datetime_of year month day time.0; mark = (mark_at time.1).0 }, (mark_at time.1).1)

abbrev side_timed : Option ℤ → Option ℕ → Option ℕ × List ℕ → Result (Side × List ℕ) Unreadable
side_timed year month day = time_at day.0 day.1 >>= λ time. side_marked year month day.0 time

abbrev side_of_day : Option ℤ → Option ℕ × List ℕ → Result (Side × List ℕ) Unreadable
side_of_day year month = part_at month.1 >>= λ day. side_timed year month.0 day

abbrev side_of_month : Option ℤ × List ℕ → Result (Side × List ℕ) Unreadable
side_of_month year = part_at year.1 >>= λ month. side_of_day year.0 month

abbrev year_of : Bool → List ℕ → Option ℤ
year_of negative ds = option_map (parts.signed negative) (four ds)

abbrev signed_year : Bool → List ℕ × List ℕ → Result (Option ℤ × List ℕ) Unreadable
signed_year negative p = Ok (year_of negative p.0, p.1)

year-written : (negative : Bool) (cs : List ℕ) → year_at negative cs ≡ (digits_at cs >>= signed_year negative)
year-written negative cs = by_test (eqb (length (prefix_of (passes Digit) cs)) 0)
  where
    four_of : Bool → Result (Option ℕ × List ℕ) Unreadable
    four_of b = cond b (Err NotThere) (Ok (four (prefix_of (passes Digit) cs), after (passes Digit) cs))

    digits_of : Bool → Result (List ℕ × List ℕ) Unreadable
    digits_of b = cond b (Err NotThere) (Ok (prefix_of (passes Digit) cs, after (passes Digit) cs))

    signed_four : Option ℕ × List ℕ → Result (Option ℤ × List ℕ) Unreadable
    signed_four y = Ok (option_map (parts.signed negative) y.0, y.1)

    by_test : (b : Bool) → (four_of b >>= signed_four) ≡ (digits_of b >>= signed_year negative)
    by_test true = refl
    by_test false = refl

side-written : (cs : List ℕ) → side_at cs ≡ sided (written_at cs)
unfolding side_at
side-written cs = ap (λ (r : Result (Option ℤ × List ℕ) Unreadable). r >>= side_of_month) (year-written negative (taken hyphen cs).1) ∙ by_year (digits_at (taken hyphen cs).1)
  where
    negative : Bool
    negative = (taken hyphen cs).0

    by_time : (ds : List ℕ) (month day : Option ℕ) (r : Result (Option Time × List ℕ) Unreadable) → (r >>= λ time. side_marked (year_of negative ds) month day time) ≡ sided (r >>= λ time. with_mark negative ds month day time)
    by_time ds month day (Ok time) = refl
    by_time ds month day (Err e) = refl

    by_day : (ds : List ℕ) (month : Option ℕ) (r : Result (Option ℕ × List ℕ) Unreadable) → (r >>= λ day. side_timed (year_of negative ds) month day) ≡ sided (r >>= λ day. with_time negative ds month day)
    by_day ds month (Ok day) = by_time ds month day.0 (time_at day.0 day.1)
    by_day ds month (Err e) = refl

    by_month : (ds : List ℕ) (r : Result (Option ℕ × List ℕ) Unreadable) → (r >>= λ month. side_of_day (year_of negative ds) month) ≡ sided (r >>= λ month. with_day negative ds month)
    by_month ds (Ok month) = by_day ds month.0 (part_at month.1)
    by_month ds (Err e) = refl

    by_year : (r : Result (List ℕ × List ℕ) Unreadable) → ((r >>= signed_year negative) >>= side_of_month) ≡ sided (r >>= λ year. with_month negative year)
    by_year (Ok year) = by_month year.0 (part_at year.1)
    by_year (Err e) = refl

abbrev sided_last : Result Written Unreadable → Result Side Unreadable
sided_last r = r >>= λ w. Ok (side w)

last-written : (cs : List ℕ) → last_at cs ≡ sided_last (last_written cs)
last-written cs = ap (λ (r : Result (Side × List ℕ) Unreadable). r >>= side_ended) (side-written cs) ∙ by_side (written_at cs)
  where
    side_ended : Side × List ℕ → Result Side Unreadable
    side_ended s = end_at s.1 >>= λ rest. Ok s.0

    written_ended : Written × List ℕ → Result Written Unreadable
    written_ended s = end_at s.1 >>= λ rest. Ok s.0

    by_end : (w : Written) (cs : List ℕ) → side_ended (side w, cs) ≡ sided_last (written_ended (w, cs))
    by_end w [] = refl
    by_end w (c ∷ cs) = refl

    by_side : (r : Result (Written × List ℕ) Unreadable) → (sided r >>= side_ended) ≡ sided_last (r >>= written_ended)
    by_side (Ok s) = by_end s.0 s.1
    by_side (Err f) = refl

-- an open start, and the side
until-dated : (cs : List ℕ) → date_of (opening_after (true, cs)) ≡ answered (after_opening (true, cs))
until-dated cs = by_last (last_written cs) refl
  where
    by_last : (r : Result Written Unreadable) → last_written cs ≡ r → date_of (opening_after (true, cs)) ≡ answered (after_opening (true, cs))
    by_last (Ok w) h =
        let e : last_at cs ≡ Ok (side w) = last-written cs ∙ ap sided_last h in
        rw (e, h) refl
    by_last (Err f) h =
        let e : last_at cs ≡ Err f = last-written cs ∙ ap sided_last h in
        rw (e, h) refl

points-dated : (w : Written) (cs : List ℕ) → date_of (slash_after (side w) (full_stop ∷ cs)) ≡ answered (after_slash w (full_stop ∷ cs))
points-dated w [] = refl
points-dated w (c ∷ cs) = by_test (eqb c full_stop) refl cs
  where
    by_test : (b : Bool) → eqb c full_stop ≡ b → (cs : List ℕ) → date_of (slash_after (side w) (full_stop ∷ c ∷ cs)) ≡ answered (after_slash w (full_stop ∷ c ∷ cs))
    by_test true h [] = rw h refl
    by_test true h (d ∷ cs) = rw h refl
    by_test false h cs = rw h refl

slash-dated : (w : Written) (cs : List ℕ) → date_of (slash_after (side w) cs) ≡ answered (after_slash w cs)
slash-dated w [] = refl
slash-dated w (c ∷ cs) = by_test (eqb c full_stop) refl
  where
    by_last : eqb c full_stop ≡ false → (r : Result Written Unreadable) → last_written (c ∷ cs) ≡ r → date_of (slash_after (side w) (c ∷ cs)) ≡ answered (after_slash w (c ∷ cs))
    by_last g (Ok x) h =
        let e : last_at (c ∷ cs) ≡ Ok (side x) = last-written (c ∷ cs) ∙ ap sided_last h in
        rw (g, e, h) refl
    by_last g (Err f) h =
        let e : last_at (c ∷ cs) ≡ Err f = last-written (c ∷ cs) ∙ ap sided_last h in
        rw (g, e, h) refl

    by_test : (b : Bool) → eqb c full_stop ≡ b → date_of (slash_after (side w) (c ∷ cs)) ≡ answered (after_slash w (c ∷ cs))
    by_test true h = subst (λ (x : ℕ). date_of (slash_after (side w) (x ∷ cs)) ≡ answered (after_slash w (x ∷ cs))) (sym (eqb-true c full_stop h)) (points-dated w cs)
    by_test false h = by_last h (last_written (c ∷ cs)) refl

first-dated : (w : Written) (t : Bool × List ℕ) → date_of (first_after (side w) t) ≡ answered (after_first w t)
first-dated w (false, []) = refl
first-dated w (false, c ∷ cs) = refl
first-dated w (true, cs) = slash-dated w cs

sides-dated : (cs : List ℕ) → date_of (opening_after (false, cs)) ≡ answered (after_opening (false, cs))
sides-dated cs = by_side (written_at cs) refl
  where
    by_side : (r : Result (Written × List ℕ) Unreadable) → written_at cs ≡ r → date_of (opening_after (false, cs)) ≡ answered (after_opening (false, cs))
    by_side (Ok s) h =
        let e : side_at cs ≡ Ok (side s.0, s.1) = side-written cs ∙ ap sided h in
        rw (e, h) (first-dated s.0 (taken slash s.1))
    by_side (Err f) h =
        let e : side_at cs ≡ Err f = side-written cs ∙ ap sided h in
        rw (e, h) refl

-- the reader answers what the sides that are written mean
pub dated : (cs : List ℕ) → date_of (shape_of cs) ≡ answered (sides_of cs)
unfolding shape_of
dated cs = by_opening (opening_at cs)
  where
    by_opening : (r : Result (Bool × List ℕ) Unreadable) → date_of (r >>= opening_after) ≡ answered (r >>= after_opening)
    by_opening (Err e) = refl
    by_opening (Ok (true, rest)) = until-dated rest
    by_opening (Ok (false, rest)) = sides-dated rest
