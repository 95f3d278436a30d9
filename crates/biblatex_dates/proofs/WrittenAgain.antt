-- Dates that were written are read back.
use Rattle.std.proofs.Common.{◌≡◌, ℕ, suc, ◌+◌, ◌-◌, ◌<◌, ◌≤◌, Bool, true, false, List, [], ◌∷◌, ◌++◌, length, Option, Some, None, Result, Ok, ℤ, pos, negsuc, refl, sym, ap, ◌∙◌, subst, arith, eqb, append_assoc, append-nil, lit<, lit≤}
use Rattle.std.specs.Prelude.{unsigned_abs, codes}
use Rattle.std.specs.Fmt.{decimal, sign_text}
use Rattle.std.specs.Int.{is_negative}
use Rattle.std.specs.Str.Parse.{digits_value}
use Rattle.std.proofs.lemmas.Bool.Decides.{nat_tests}
use Rattle.std.proofs.lemmas.Fmt.{digits_value-decimal}
use Rattle.laws.specs.Characters as character
use Rattle.laws.specs.Results.{◌>>=◌}
use Rattle.laws.specs.Runs.{Bars}
use Rattle.laws.proofs.Runs.{cuts}
use Rattle.texts.specs.Character.{passes}
use Rattle.texts.specs.Reading.{digits_at, taken}
use Rattle.texts.specs.declared.character.Class.TheVariants.{Digit}
use Rattle.texts.proofs.ReadingDigits.{own}
use Rattle.texts.proofs.ReadingStarts.{starts}
use Rattle.std.specs.Option.{option_map}
use Rattle.texts.specs.declared.reader.Unreadable.{Unreadable}
use Rattle.date_parts.specs.Parts.{part_at, signed}
use Rattle.date_parts.specs.Written.{padded, year_text, counted_text}
use Rattle.date_parts.proofs.WrittenAgain.{not_negative, zeros_value, padded_length, padded_digits, digits_again, part_again, year_sign, signed_again}
use Rattle.date_parts.proofs.CalendarDays.{few_days, no_season, of_twelve, day_within}
use Rattle.biblatex_dates.specs.Datetime.{datetime_of}
use Rattle.biblatex_dates.specs.Shape.{opening_at, last_at, slash_after, shape_of, date_of}
use Rattle.biblatex_dates.specs.Side.{four, four_at, year_at, minutes_at, offset_at, clock_at, time_at, no_mark, mark_at, side_at}
use Rattle.biblatex_dates.specs.Written.{following, offset_text, time_text, day_text, month_text, datetime_text, sides_text, end_text, mark_text, date_text, SidesExist, IsOffset, IsTime, HasMonth, Exists}
use Rattle.biblatex_dates.specs.declared.date.Date.{Date}
use Rattle.biblatex_dates.specs.declared.date.DateValue.{DateValue}
use Rattle.biblatex_dates.specs.declared.date.DateValue.TheVariants.{At, After, Before, Between}
use Rattle.biblatex_dates.specs.declared.shape.Shape.TheVariants.{Range}
use Rattle.biblatex_dates.specs.declared.datetime.Datetime.{Datetime}
use Rattle.biblatex_dates.specs.declared.datetime.Time.{Time}
use Rattle.biblatex_dates.specs.declared.datetime.TimeOffset.{TimeOffset}
use Rattle.biblatex_dates.specs.declared.datetime.TimeOffset.TheVariants.{Utc, Offset}
use Rattle.biblatex_dates.specs.declared.side.Side.{Side}

-- two digits that were written are read back
two_again : (n : ℕ) (rest : List ℕ) → n < 100 → Bars (passes Digit) rest → digits_at 2 2 (padded 2 n ++ rest) ≡ Ok (n, rest)
two_again n rest small bars = digits_again 2 2 n rest (lit≤ tt) (lit< tt) (omega arith) (omega arith) bars

-- the digits of a year that were written are read back
four_again : (n : ℕ) (rest : List ℕ) → n ≤ 9999 → Bars (passes Digit) rest → four_at (padded 4 n ++ rest) ≡ Ok (Some n, rest)
four_again n rest small bars =
    let c = cuts (passes Digit) (padded 4 n) rest (padded_digits 4 n (omega arith)) bars in
    let many : length (padded 4 n) ≡ 4 = padded_length 4 n (lit< tt) (omega arith) (omega arith) in
    let value : digits_value 10 (padded 4 n) ≡ n = zeros_value (4 - length (decimal n)) (decimal n) ∙ digits_value-decimal own n (omega arith) in
    let is_four : four (padded 4 n) ≡ Some n = rw (many, value) refl in
    let some : eqb (length (padded 4 n)) 0 ≡ false = rw many refl in
    rw (c.prefix, c.after, some, is_four) refl

-- a year that was written is read back
year_again : (y : ℤ) (rest : List ℕ) → unsigned_abs y ≤ 9999 → Bars (passes Digit) rest → year_at (taken character.hyphen (year_text y ++ rest)).0 (taken character.hyphen (year_text y ++ rest)).1 ≡ Ok (Some y, rest)
year_again y rest small bars =
    ap (λ (p : Bool × List ℕ). year_at p.0 p.1) (year_sign y rest small)
    ∙ ap (λ (r : Result (Option ℕ × List ℕ) Unreadable). r >>= λ n. Ok (option_map (signed (is_negative y)) n.0, n.1)) (four_again (unsigned_abs y) rest small bars)
    ∙ (λ i. Ok (Some (signed_again y i), rest))

-- what may follow a side: nothing that its parts would take
record EndsSide (rest : List ℕ) : Type 0 where
  pub bars : Bars (passes Digit) rest
  pub no_part : part_at rest ≡ Ok (None, rest)
  pub no_time : taken character.upper_t rest ≡ (false, rest)
  pub no_second : taken character.colon rest ≡ (false, rest)
  pub no_offset : offset_at rest ≡ Ok (None, rest)

ends_empty : EndsSide []
unfolding part_at
ends_empty = record { bars = tt; no_part = refl; no_time = refl; no_second = refl; no_offset = refl }

ends_slash : (cs : List ℕ) → EndsSide (character.slash ∷ cs)
unfolding part_at passes
ends_slash cs = record { bars = refl; no_part = refl; no_time = refl; no_second = refl; no_offset = refl }

ends_mark : (u a : Bool) (rest : List ℕ) → EndsSide rest → EndsSide (mark_text u a ++ rest)
unfolding part_at passes
ends_mark false false rest ends = ends
ends_mark true false rest ends = record { bars = refl; no_part = refl; no_time = refl; no_second = refl; no_offset = refl }
ends_mark false true rest ends = record { bars = refl; no_part = refl; no_time = refl; no_second = refl; no_offset = refl }
ends_mark true true rest ends = record { bars = refl; no_part = refl; no_time = refl; no_second = refl; no_offset = refl }

hyphen_bars : (cs : List ℕ) → Bars (passes Digit) (character.hyphen ∷ cs)
unfolding passes
hyphen_bars cs = refl

colon_bars : (cs : List ℕ) → Bars (passes Digit) (character.colon ∷ cs)
unfolding passes
colon_bars cs = refl

-- hours and minutes that were written are read back
minutes_again : (h m : ℕ) (rest : List ℕ) → h < 100 → m < 100 → Bars (passes Digit) rest → minutes_at (padded 2 h ++ (following character.colon m ++ rest)) ≡ Ok ((h, m), rest)
unfolding minutes_at
minutes_again h m rest h_small m_small bars =
    let hour = two_again h (following character.colon m ++ rest) h_small (colon_bars (padded 2 m ++ rest)) in
    let minute = two_again m rest m_small bars in
    rw (hour, minute) refl

-- an offset that was written is read back
offset_again : (o : Option TimeOffset) (rest : List ℕ) → IsOffset o → EndsSide rest → offset_at (offset_text o ++ rest) ≡ Ok (o, rest)
offset_again None rest is ends = ends.no_offset
offset_again (Some Utc) rest is ends = refl
offset_again (Some (Offset true h m)) rest is ends =
    ap offset_at (append_assoc (following character.plus_sign h) (following character.colon m) rest) ∙ (let minutes = minutes_again h m rest is.0 is.1 ends.bars in rw minutes refl)
offset_again (Some (Offset false h m)) rest is ends =
    ap offset_at (append_assoc (following character.hyphen h) (following character.colon m) rest) ∙ (let minutes = minutes_again h m rest is.0 is.1 ends.bars in rw minutes refl)

offset_bars : (o : Option TimeOffset) (rest : List ℕ) → EndsSide rest → Bars (passes Digit) (offset_text o ++ rest)
unfolding passes
offset_bars None rest ends = ends.bars
offset_bars (Some Utc) rest ends = refl
offset_bars (Some (Offset true h m)) rest ends = refl
offset_bars (Some (Offset false h m)) rest ends = refl

-- a time that was written is read back
clock_again : (t : Time) (rest : List ℕ) → IsTime (Some t) → EndsSide rest → clock_at (padded 2 t.hour ++ (following character.colon t.minute ++ (following character.colon t.second ++ (offset_text t.offset ++ rest)))) ≡ Ok (t, rest)
unfolding clock_at
clock_again t rest is ends =
    let minutes = minutes_again t.hour t.minute (following character.colon t.second ++ (offset_text t.offset ++ rest)) is.0 is.1 (colon_bars (padded 2 t.second ++ (offset_text t.offset ++ rest))) in
    let second = two_again t.second (offset_text t.offset ++ rest) is.2 (offset_bars t.offset rest ends) in
    let offset = offset_again t.offset rest is.3 ends in
    rw (minutes, second, offset) refl

clock_parts : (a b c d rest : List ℕ) → (a ++ (b ++ (c ++ d))) ++ rest ≡ a ++ (b ++ (c ++ (d ++ rest)))
clock_parts a b c d rest =
    append_assoc a (b ++ (c ++ d)) rest ∙ ap (λ (x : List ℕ). a ++ x) (append_assoc b (c ++ d) rest ∙ ap (λ (x : List ℕ). b ++ x) (append_assoc c d rest))

time_again : (d : ℕ) (time : Option Time) (rest : List ℕ) → IsTime time → EndsSide rest → time_at (Some d) (time_text time ++ rest) ≡ Ok (time, rest)
time_again d None rest is ends = let none = ends.no_time in rw none refl
time_again d (Some t) rest is ends =
    ap (time_at (Some d)) (clock_parts (following character.upper_t t.hour) (following character.colon t.minute) (following character.colon t.second) (offset_text t.offset) rest)
    ∙ (let clock = clock_again t rest is ends in rw clock refl)

time_bars : (time : Option Time) (rest : List ℕ) → EndsSide rest → Bars (passes Digit) (time_text time ++ rest)
unfolding passes
time_bars None rest ends = ends.bars
time_bars (Some t) rest ends = refl

day_bars : (day : Option ℕ) (time : Option Time) (rest : List ℕ) → EndsSide rest → Bars (passes Digit) (day_text day time ++ rest)
unfolding passes
day_bars None time rest ends = ends.bars
day_bars (Some d) time rest ends = refl

month_bars : (month day : Option ℕ) (time : Option Time) (rest : List ℕ) → EndsSide rest → Bars (passes Digit) (month_text month day time ++ rest)
unfolding passes
month_bars None day time rest ends = ends.bars
month_bars (Some m) day time rest ends = refl

-- the month or the day as written, which counts from one
abbrev from_one : Option ℕ → Option ℕ
from_one None = None
from_one (Some n) = Some (n + 1)

-- the side that was written, after it what follows
abbrev side_with : ℤ → Option ℕ → Option ℕ → Option Time → List ℕ → Side × List ℕ
side_with y month day time rest = (record { datetime = datetime_of (Some y) (from_one month) (from_one day) time; mark = (mark_at rest).0 }, (mark_at rest).1)

side_again : (y : ℤ) (month day : Option ℕ) (time : Option Time) (rest : List ℕ) → unsigned_abs y ≤ 9999 → HasMonth y month day time → EndsSide rest
    → side_at (year_text y ++ (month_text month day time ++ rest)) ≡ Ok (side_with y month day time rest)
unfolding side_at
side_again y None None None rest small has ends =
    let year = year_again y rest small ends.bars in
    let part = ends.no_part in
    rw (year, part, part) refl
side_again y None None (Some t) rest small has ends = absurd has
side_again y None (Some d) time rest small has ends = absurd has
side_again y (Some m) None None rest small has ends =
    let year = year_again y ((counted_text m ++ []) ++ rest) small (hyphen_bars ((padded 2 (m + 1) ++ []) ++ rest)) in
    let same : (counted_text m ++ []) ++ rest ≡ counted_text m ++ rest = ap (λ (x : List ℕ). x ++ rest) (append-nil (counted_text m)) in
    let month = ap part_at same ∙ part_again m rest (omega (arith, has.0)) ends.bars in
    let part = ends.no_part in
    rw (year, month, part) refl
side_again y (Some m) None (Some t) rest small has ends = absurd has.1
side_again y (Some m) (Some d) time rest small has ends =
    let year = year_again y ((counted_text m ++ day_text (Some d) time) ++ rest) small (hyphen_bars ((padded 2 (m + 1) ++ day_text (Some d) time) ++ rest)) in
    let month = ap part_at (append_assoc (counted_text m) (day_text (Some d) time) rest) ∙ part_again m (day_text (Some d) time ++ rest) (omega (arith, has.0)) (day_bars (Some d) time rest ends) in
    let day = ap part_at (append_assoc (counted_text d) (time_text time) rest) ∙ part_again d (time_text time ++ rest) (omega (arith, has.1.0, few_days y (m + 1))) (time_bars time rest ends) in
    let clock = time_again (d + 1) time rest has.1.1 ends in
    rw (year, month, day, clock) refl

one_less : (n : ℕ) → n + 1 - 1 ≡ n
one_less n = omega arith

-- what is meant by what was written is the date
meant_again : (y : ℤ) (month day : Option ℕ) (time : Option Time) → HasMonth y month day time → datetime_of (Some y) (from_one month) (from_one day) time ≡ Ok (record { year = y; month = month; day = day; time = time })
meant_again y None None None has = refl
meant_again y None None (Some t) has = absurd has
meant_again y None (Some d) time has = absurd has
meant_again y (Some m) None None has =
    let season = no_season m has.0 in
    let month = of_twelve m has.0 in
    let less = one_less m in
    rw (season, month, less) refl
meant_again y (Some m) None (Some t) has = absurd has.1
meant_again y (Some m) (Some d) time has =
    let season = no_season m has.0 in
    let month = of_twelve m has.0 in
    let day = day_within y m d has.1.0 in
    let less = one_less m in
    let less_day = one_less d in
    rw (season, month, day, less, less_day) refl

-- a side that was written is read back, with the mark that stands after it
abbrev marked_side : Datetime → List ℕ → Side
marked_side d rest = record { datetime = Ok d; mark = (mark_at rest).0 }

written_again : (d : Datetime) (rest : List ℕ) → Exists d → EndsSide rest → side_at (datetime_text d ++ rest) ≡ Ok (marked_side d rest, (mark_at rest).1)
written_again d rest exists ends =
    ap side_at (append_assoc (year_text d.year) (month_text d.month d.day d.time) rest)
    ∙ side_again d.year d.month d.day d.time rest exists.0 exists.1 ends
    ∙ (λ i. Ok (record { datetime = meant_again d.year d.month d.day d.time exists.1 i; mark = (mark_at rest).0 }, (mark_at rest).1))

-- a text that begins with neither a slash nor a point
record Opens (cs : List ℕ) : Type 0 where
  pub first : ℕ
  pub others : List ℕ
  pub is : cs ≡ first ∷ others
  pub not_slash : eqb first character.slash ≡ false
  pub not_point : eqb first character.full_stop ≡ false

no_slash : (c : ℕ) → passes Digit c ≡ true → eqb c character.slash ≡ false
unfolding passes
no_slash c d = grind (arith, nat_tests)

no_point : (c : ℕ) → passes Digit c ≡ true → eqb c character.full_stop ≡ false
unfolding passes
no_point c d = grind (arith, nat_tests)

year_opens : (y : ℤ) (rest : List ℕ) → unsigned_abs y ≤ 9999 → Opens (year_text y ++ rest)
year_opens (pos n) rest small =
    let long : 0 < length (padded 4 n) = omega (arith, padded_length 4 n (lit< tt) (omega arith) (omega arith)) in
    let s = starts (passes Digit) (padded 4 n) rest (padded_digits 4 n (omega arith)) long in
    let plain : year_text (pos n) ++ rest ≡ padded 4 n ++ rest = (λ i. (sign_text (not_negative n i) ++ padded 4 n) ++ rest) in
    record { first = s.first; others = s.others; is = plain ∙ s.is; not_slash = no_slash s.first s.passes; not_point = no_point s.first s.passes }
year_opens (negsuc n) rest small = record { first = character.hyphen; others = padded 4 (suc n) ++ rest; is = refl; not_slash = refl; not_point = refl }

datetime_opens : (d : Datetime) (rest : List ℕ) → Exists d → Opens (datetime_text d ++ rest)
datetime_opens d rest exists =
    subst (λ (x : List ℕ). Opens x) (sym (append_assoc (year_text d.year) (month_text d.month d.day d.time) rest)) (year_opens d.year (month_text d.month d.day d.time ++ rest) exists.0)

not_open : (cs : List ℕ) → Opens cs → opening_at cs ≡ Ok (false, cs)
not_open cs o =
    subst (λ (t : List ℕ). opening_at t ≡ Ok (false, t)) (sym o.is) (let slash = o.not_slash in let point = o.not_point in rw (slash, point) refl)

goes_on : (a : Side) (cs : List ℕ) → Opens cs → slash_after a cs ≡ (last_at cs >>= λ b. Ok (Range a b))
goes_on a cs o =
    subst (λ (t : List ℕ). slash_after a t ≡ (last_at t >>= λ b. Ok (Range a b))) (sym o.is) (let point = o.not_point in rw point refl)

mark_again : (u a : Bool) (rest : List ℕ) → mark_at rest ≡ (no_mark, rest) → mark_at (mark_text u a ++ rest) ≡ (record { uncertain = u; approximate = a }, rest)
mark_again false false rest none = none
mark_again true false rest none = refl
mark_again false true rest none = refl
mark_again true true rest none = refl

-- the last side is read back, with its mark
last_again : (d : Datetime) (u a : Bool) → Exists d → last_at (datetime_text d ++ (mark_text u a ++ [])) ≡ Ok (record { datetime = Ok d; mark = record { uncertain = u; approximate = a } })
last_again d u a exists =
    let side = written_again d (mark_text u a ++ []) exists (ends_mark u a [] ends_empty) in
    let mark = mark_again u a [] refl in
    rw (side, mark) refl

-- what was written is read back
value_again : (v : DateValue) (u a : Bool) → SidesExist v → date_of (shape_of (sides_text v ++ (mark_text u a ++ end_text v))) ≡ Ok (record { value = v; uncertain = u; approximate = a })
unfolding shape_of
value_again (At d) u a exists =
    let opening = not_open _ (datetime_opens d (mark_text u a ++ []) exists) in
    let side = written_again d (mark_text u a ++ []) exists (ends_mark u a [] ends_empty) in
    let mark = mark_again u a [] refl in
    rw (opening, side, mark) refl
value_again (After d) u a exists =
    let opening = not_open _ (datetime_opens d (mark_text u a ++ codes "/..") exists) in
    let side = written_again d (mark_text u a ++ codes "/..") exists (ends_mark u a (codes "/..") (ends_slash (codes ".."))) in
    let mark = mark_again u a (codes "/..") refl in
    rw (opening, side, mark) refl
value_again (Before d) u a exists =
    let last = last_again d u a exists in
    rw last refl
value_again (Between c d) u a exists =
    let tail : List ℕ = datetime_text d ++ (mark_text u a ++ []) in
    let whole : (datetime_text c ++ (codes "/" ++ datetime_text d)) ++ (mark_text u a ++ []) ≡ datetime_text c ++ (character.slash ∷ tail) = append_assoc (datetime_text c) (codes "/" ++ datetime_text d) (mark_text u a ++ []) in
    let opening = not_open _ (datetime_opens c (character.slash ∷ tail) exists.0) in
    let side = written_again c (character.slash ∷ tail) exists.0 (ends_slash tail) in
    let more = goes_on (marked_side c (character.slash ∷ tail)) tail (datetime_opens d (mark_text u a ++ []) exists.1) in
    let last = last_again d u a exists.1 in
    ap (λ (t : List ℕ). date_of (shape_of t)) whole ∙ rw (opening, side, more, last) refl

pub date_again : (d : Date) → SidesExist d.value → date_of (shape_of (date_text d)) ≡ Ok d
date_again d exists = value_again d.value d.uncertain d.approximate exists
