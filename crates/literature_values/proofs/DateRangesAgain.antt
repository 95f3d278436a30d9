-- Dates and ranges that were written are read back.
use Rattle.std.proofs.Common.{◌≡◌, ℕ, ◌+◌, ◌^◌, ◌<◌, Bool, true, false, cond, List, [], ◌∷◌, ◌++◌, Option, Some, None, Result, Ok, Err, ℤ, refl, sym, ap, ◌∙◌, arith, append_assoc, append-nil}
use Rattle.std.specs.Prelude.{unsigned_abs, is_ok}
use Rattle.std.specs.Bool.{Decides}
use Rattle.std.specs.Fmt.{sign_text}
use Rattle.std.specs.Int.{is_negative}
use Rattle.std.proofs.lemmas.Bool.{true≢false}
use Rattle.std.proofs.lemmas.Bool.Decides.{nat_tests}
use Rattle.std.proofs.lemmas.Slice.Eq.{bytes_eq-Decides}
use Rattle.texts.specs.declared.reader.Unreadable.{Unreadable}
use Rattle.texts.specs.declared.reader.Unreadable.TheVariants.{NotThere}
use Rattle.texts.specs.Character.{passes}
use Rattle.texts.specs.declared.character.Class.TheVariants.{Digit}
use Rattle.laws.specs.Characters.{full_stop, slash}
use Rattle.laws.specs.Results.{◌>>=◌}
use Rattle.laws.specs.Runs.{AllPassTest}
use Rattle.laws.proofs.Runs.{cuts}
use Rattle.date_parts.specs.Written.{padded, year_text, counted_text}
use Rattle.date_parts.proofs.CalendarDays.{few_days}
use Rattle.date_parts.proofs.WrittenAgain.{padded_digits}
use Rattle.literature_values.specs.Dates.{side_of, date_of}
use Rattle.literature_values.specs.DateRanges.{is_of_side, is_open, with_open_end, with_end, shaped, between, range_with, range_of}
use Rattle.literature_values.specs.DateText.{month_text, side_text, mark_text, end_text, date_text, HasMonth, SideExists, EndExists, Exists}
use Rattle.literature_values.specs.declared.date.Date.{Date}
use Rattle.literature_values.specs.declared.date.Side.{Side}
use Rattle.literature_values.specs.declared.date.DateEnd.{DateEnd}
use Rattle.literature_values.specs.declared.date.DateEnd.TheVariants.{On, Open}
use Rattle.literature_values.specs.declared.date.DateError.{DateError}
use Rattle.literature_values.proofs.DatesAgain.{meant, meant_again, marked_again, plain_again}

digit_passes : (c : ℕ) → passes Digit c ≡ true → is_of_side c ≡ true
unfolding passes
digit_passes c d = grind (arith, nat_tests)

digits_pass : (ds : List ℕ) → AllPassTest (passes Digit) ds → AllPassTest is_of_side ds
digits_pass [] all = tt
digits_pass (d ∷ ds) all = (digit_passes d all.0, digits_pass ds all.1)

both_pass : (a b : List ℕ) → AllPassTest is_of_side a → AllPassTest is_of_side b → AllPassTest is_of_side (a ++ b)
both_pass [] b all more = more
both_pass (c ∷ a) b all more = (all.0, both_pass a b all.1 more)

padded_passes : (width n : ℕ) → n < 2 ^ 31 → AllPassTest is_of_side (padded width n)
padded_passes width n small = digits_pass (padded width n) (padded_digits width n small)

sign_passes : (b : Bool) → AllPassTest is_of_side (sign_text b)
sign_passes false = tt
sign_passes true = (refl, tt)

counted_passes : (n : ℕ) → n < 100 → AllPassTest is_of_side (counted_text n)
counted_passes n small = (refl, padded_passes 2 (n + 1) (omega arith))

month_passes : (y : ℤ) (month day : Option ℕ) → HasMonth y month day → AllPassTest is_of_side (month_text month day)
month_passes y None None has = tt
month_passes y None (Some d) has = absurd has
month_passes y (Some m) None has = both_pass (counted_text m) [] (counted_passes m (omega (arith, has.0))) tt
month_passes y (Some m) (Some d) has =
    both_pass (counted_text m) (counted_text d) (counted_passes m (omega (arith, has.0))) (counted_passes d (omega (arith, has.1, few_days y (m + 1))))

-- there is no slash in what is written of a side
side_passes : (y : ℤ) (month day : Option ℕ) → SideExists y month day → AllPassTest is_of_side (side_text y month day)
side_passes y month day exists =
    let year = both_pass (sign_text (is_negative y)) (padded 4 (unsigned_abs y)) (sign_passes (is_negative y)) (padded_passes 4 (unsigned_abs y) (omega (arith, exists.0))) in
    both_pass (year_text y) (month_text month day) year (month_passes y month day exists.1)

mark_passes : (b : Bool) → AllPassTest is_of_side (mark_text b)
mark_passes false = tt
mark_passes true = (refl, tt)

marked_passes : (y : ℤ) (month day : Option ℕ) (b : Bool) → SideExists y month day → AllPassTest is_of_side (side_text y month day ++ mark_text b)
marked_passes y month day b exists = both_pass (side_text y month day) (mark_text b) (side_passes y month day exists) (mark_passes b)

-- a text without a slash is a side alone
alone : (cs : List ℕ) → AllPassTest is_of_side cs → range_of cs ≡ date_of (side_of cs)
alone cs all =
    let c = cuts is_of_side cs [] all tt in
    ap range_of (sym (append-nil cs)) ∙ (λ i. range_with (c.prefix i) (c.after i))

-- a text with a slash is a side and what follows it
cut : (a b : List ℕ) → AllPassTest is_of_side a → range_of (a ++ slash ∷ b) ≡ range_with a (slash ∷ b)
cut a b all =
    let c = cuts is_of_side a (slash ∷ b) all refl in
    (λ i. range_with (c.prefix i) (c.after i))

no_side : side_of (full_stop ∷ full_stop ∷ []) ≡ Err NotThere
unfolding side_of passes
no_side = refl

-- what is read as a side is no open end
not_open : (cs : List ℕ) (s : Side) → side_of cs ≡ Ok s → is_open cs ≡ false
not_open cs s is = by_test (is_open cs) (bytes_eq-Decides cs (full_stop ∷ full_stop ∷ []))
  where
    by_test : (b : Bool) → Decides b (cs ≡ full_stop ∷ full_stop ∷ []) → b ≡ false
    by_test false d = refl
    by_test true d = absurd (true≢false (ap is_ok (sym is ∙ ap side_of (d.0 refl) ∙ no_side)))

abbrev of_dates : Result Date DateError → Result Date DateError → Result Date DateError
of_dates c d = c >>= λ start. d >>= λ end. Ok (with_end start end)

abbrev of_sides : Result Side Unreadable → Result Side Unreadable → Result Date DateError
of_sides a b = shaped a >>= λ first. shaped b >>= λ last. of_dates (date_of (Ok first)) (date_of (Ok last))

-- both sides are read back
between_again : (y z : ℤ) (month day n e : Option ℕ) (b : Bool) → SideExists y month day → SideExists z n e
    → between (side_text y month day) (side_text z n e ++ mark_text b) ≡ Ok (with_end (meant y month day false) (meant z n e b))
unfolding between
between_again y z month day n e b exists ends =
    let first = plain_again y month day exists in
    let last = marked_again z n e b ends in
    let start = meant_again y month day false exists.1 in
    let end = meant_again z n e b ends.1 in
    (λ i. of_sides (first i) (last i)) ∙ (λ i. of_dates (start i) (end i))

-- a side with its mark is read back
one_again : (y : ℤ) (month day : Option ℕ) (b : Bool) → SideExists y month day → date_of (side_of (side_text y month day ++ mark_text b)) ≡ Ok (meant y month day b)
one_again y month day b exists = ap date_of (marked_again y month day b exists) ∙ meant_again y month day b exists.1

abbrev opened : Result Date DateError → Result Date DateError
opened r = r >>= λ d. Ok (with_open_end d)

again : (y : ℤ) (month day : Option ℕ) (end : Option DateEnd) (b : Bool) → SideExists y month day → EndExists end
    → range_of (side_text y month day ++ end_text b end) ≡ Ok (record { year = y; month = month; day = day; end = end; approximate = b })
again y month day None b exists ends =
    alone (side_text y month day ++ mark_text b) (marked_passes y month day b exists) ∙ one_again y month day b exists
again y month day (Some (On z n e)) b exists ends =
    let a : List ℕ = side_text y month day in
    let rest : List ℕ = side_text z n e ++ mark_text b in
    cut a rest (side_passes y month day exists)
    ∙ ap (λ (t : Bool). cond t (opened (date_of (side_of a))) (between a rest)) (not_open rest _ (marked_again z n e b ends))
    ∙ between_again y z month day n e b exists ends
again y month day (Some Open) b exists ends =
    let a : List ℕ = side_text y month day ++ mark_text b in
    ap range_of (sym (append_assoc (side_text y month day) (mark_text b) (slash ∷ full_stop ∷ full_stop ∷ [])))
    ∙ cut a (full_stop ∷ full_stop ∷ []) (marked_passes y month day b exists)
    ∙ ap opened (one_again y month day b exists)

pub date_again : (d : Date) → Exists d → range_of (date_text d) ≡ Ok d
date_again d exists = again d.year d.month d.day d.end d.approximate exists.0 exists.1
