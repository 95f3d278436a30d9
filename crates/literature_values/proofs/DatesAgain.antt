-- Sides that were written are read back.
use Rattle.std.proofs.Common.{◌≡◌, ℕ, ◌+◌, ◌-◌, ◌≤◌, Bool, true, false, List, [], ◌∷◌, ◌++◌, Option, Some, None, Result, Ok, ℤ, refl, sym, ap, ◌∙◌, arith, append_assoc, append-nil, lit<, lit≤}
use Rattle.std.specs.Prelude.{unsigned_abs}
use Rattle.std.specs.Int.{is_negative}
use Rattle.texts.specs.declared.reader.Unreadable.{Unreadable}
use Rattle.laws.specs.Characters.{hyphen}
use Rattle.laws.specs.Results.{◌>>=◌}
use Rattle.laws.specs.Runs.{Bars}
use Rattle.texts.specs.Character.{passes}
use Rattle.texts.specs.Reading.{taken, mark_at}
use Rattle.date_parts.specs.Parts.{part_at, signed}
use Rattle.date_parts.specs.Written.{padded, year_text, counted_text}
use Rattle.date_parts.proofs.WrittenAgain.{digits_again, part_again, year_sign, signed_again}
use Rattle.date_parts.proofs.CalendarDays.{few_days, no_season, of_twelve, day_within}
use Rattle.literature_values.specs.Dates.{time_at, year_at, side_of, date_of}
use Rattle.literature_values.specs.DateText.{day_text, month_text, side_text, mark_text, HasMonth, SideExists}
use Rattle.texts.specs.declared.character.Class.TheVariants.{Digit}
use Rattle.literature_values.specs.declared.date.Date.{Date}
use Rattle.literature_values.specs.declared.date.Side.{Side}

-- where a mark or the end stands, no part does
no_part : (b : Bool) → part_at (mark_text b) ≡ Ok (None, mark_text b)
unfolding part_at
no_part false = refl
no_part true = refl

no_time : (d : Option ℕ) (b : Bool) → time_at d (mark_text b) ≡ Ok (mark_text b)
no_time None b = refl
no_time (Some d) false = refl
no_time (Some d) true = refl

mark_again : (b : Bool) → mark_at (mark_text b) ≡ (b, [])
unfolding passes
mark_again false = refl
mark_again true = refl

mark_bars : (b : Bool) → Bars (passes Digit) (mark_text b)
unfolding passes
mark_bars false = tt
mark_bars true = refl

-- a year that was written is read back
year_again : (y : ℤ) (rest : List ℕ) → unsigned_abs y ≤ 9999 → Bars (passes Digit) rest → year_at (taken hyphen (year_text y ++ rest)).0 (taken hyphen (year_text y ++ rest)).1 ≡ Ok (y, rest)
year_again y rest small bars =
    let sign = year_sign y rest small in
    let digits = digits_again 4 4 (unsigned_abs y) rest (lit≤ tt) (lit< tt) (omega arith) (omega arith) bars in
    ap (λ (p : Bool × List ℕ). year_at p.0 p.1) sign ∙ ap (λ (r : Result (ℕ × List ℕ) Unreadable). r >>= λ n. Ok (signed (is_negative y) n.0, n.1)) digits ∙ (λ i. Ok (signed_again y i, rest))

hyphen_bars : (cs : List ℕ) → Bars (passes Digit) (hyphen ∷ cs)
unfolding passes
hyphen_bars cs = refl

-- the month or the day as written, which count from one
abbrev pub counted : Option ℕ → Option ℕ
counted None = None
counted (Some n) = Some (n + 1)

abbrev pub written : ℤ → Option ℕ → Option ℕ → Bool → Side
written y month day b = record { year = y; month = counted month; day = counted day; is_marked = b }

month_again : (y : ℤ) (m : ℕ) (day : Option ℕ) (b : Bool) → HasMonth y (Some m) day → part_at (month_text (Some m) day ++ mark_text b) ≡ Ok (Some (m + 1), day_text day ++ mark_text b)
month_again y m None b has =
    ap (λ (t : List ℕ). part_at (t ++ mark_text b)) (append-nil (counted_text m)) ∙ part_again m (mark_text b) (omega (arith, has.0)) (mark_bars b)
month_again y m (Some d) b has =
    ap part_at (append_assoc (counted_text m) (counted_text d) (mark_text b)) ∙ part_again m (counted_text d ++ mark_text b) (omega (arith, has.0)) (hyphen_bars (padded 2 (d + 1) ++ mark_text b))

-- what was written is read back
side_again : (y : ℤ) (month day : Option ℕ) (b : Bool) → unsigned_abs y ≤ 9999 → HasMonth y month day → side_of (year_text y ++ (month_text month day ++ mark_text b)) ≡ Ok (written y month day b)
unfolding side_of
side_again y None None b small has =
    let year = year_again y (mark_text b) small (mark_bars b) in
    let part = no_part b in
    let mark = mark_again b in
    rw (year, part, part, mark) refl
side_again y None (Some d) b small has = absurd has
side_again y (Some m) None b small has =
    let year = year_again y (month_text (Some m) None ++ mark_text b) small (hyphen_bars ((padded 2 (m + 1) ++ []) ++ mark_text b)) in
    let month = month_again y m None b has in
    let part = no_part b in
    let mark = mark_again b in
    rw (year, month, part, mark) refl
side_again y (Some m) (Some d) b small has =
    let year = year_again y (month_text (Some m) (Some d) ++ mark_text b) small (hyphen_bars ((padded 2 (m + 1) ++ counted_text d) ++ mark_text b)) in
    let month = month_again y m (Some d) b has in
    let day = part_again d (mark_text b) (omega (arith, has.1, few_days y (m + 1))) (mark_bars b) in
    let time = no_time (Some (d + 1)) b in
    let mark = mark_again b in
    rw (year, month, day, time, mark) refl

one_less : (n : ℕ) → n + 1 - 1 ≡ n
one_less n = omega arith

-- the date that a side means
abbrev pub meant : ℤ → Option ℕ → Option ℕ → Bool → Date
meant y month day b = record { year = y; month = month; day = day; end = None; approximate = b }

pub meant_again : (y : ℤ) (month day : Option ℕ) (b : Bool) → HasMonth y month day → date_of (Ok (written y month day b)) ≡ Ok (meant y month day b)
meant_again y None None b has = refl
meant_again y None (Some d) b has = absurd has
meant_again y (Some m) None b has =
    let season = no_season m has.0 in
    let month = of_twelve m has.0 in
    let less = one_less m in
    rw (season, month, less) refl
meant_again y (Some m) (Some d) b has =
    let season = no_season m has.0 in
    let month = of_twelve m has.0 in
    let day = day_within y m d has.1 in
    let less = one_less m in
    let less_day = one_less d in
    rw (season, month, day, less, less_day) refl

-- a side that was written, with a mark after it or none, is read back
pub marked_again : (y : ℤ) (month day : Option ℕ) (b : Bool) → SideExists y month day → side_of (side_text y month day ++ mark_text b) ≡ Ok (written y month day b)
marked_again y month day b exists = ap side_of (append_assoc (year_text y) (month_text month day) (mark_text b)) ∙ side_again y month day b exists.0 exists.1

-- a side that was written by itself is read back
pub plain_again : (y : ℤ) (month day : Option ℕ) → SideExists y month day → side_of (side_text y month day) ≡ Ok (written y month day false)
plain_again y month day exists = ap side_of (sym (append-nil (side_text y month day))) ∙ marked_again y month day false exists
