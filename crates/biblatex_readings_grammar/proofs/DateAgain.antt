-- What the grammar of dates relates to a text is read.
use Rattle.std.proofs.Common.{◌≡◌, ℕ, ◌≤◌, Bool, true, false, eqb, List, [], ◌∷◌, ◌++◌, length, Option, Some, None, Result, Ok, Err, refl, sym, ap, ◌∙◌, subst, inl, inr, arith}
use Rattle.std.proofs.lemmas.Bool.{ne_eqb}
use Rattle.std.proofs.lemmas.Bool.Decides.{nat_tests}
use Rattle.std.specs.Char.{is_ascii_digit}
use Rattle.laws.specs.Characters as character
use Rattle.laws.specs.Results.{◌>>=◌}
use Rattle.laws.specs.Runs.{prefix_of, after, AllPassTest, Bars}
use Rattle.laws.proofs.Results.{ok_is}
use Rattle.texts.specs.Character.{passes}
use Rattle.texts.specs.Reading.{digits_at, taken}
use Rattle.texts.specs.declared.character.Class.TheVariants.{Digit}
use Rattle.texts.specs.declared.reader.Unreadable.{Unreadable}
use Rattle.date_parts.specs.Parts.{part_at}
use Rattle.biblatex_dates.specs.Side.{minutes_at, seconds_after, offset_at, clock_at, time_at, mark_at, no_mark}
use Rattle.biblatex_dates.specs.Shape.{opening_at}
use Rattle.biblatex_dates.specs.declared.datetime.Time.{Time}
use Rattle.biblatex_dates.specs.declared.datetime.TimeOffset.{TimeOffset}
use Rattle.biblatex_dates.specs.declared.datetime.TimeOffset.TheVariants.{Utc, Offset}
use Rattle.biblatex_readings_grammar.specs.Sides.{Written, Sides, one, since, until, both, AreDigits, IsNumber, IsSign, IsYear, IsPart, IsDay, IsMinutes, IsSeconds, IsOffset, IsClock, IsTime, IsMark, IsSide, IsOpen, IsDate}
use Rattle.biblatex_readings_grammar.proofs.Digits.{cut, number-again}
use Rattle.biblatex_readings_grammar.proofs.Written as reading

-- what may follow a time: nothing that the parts before it would take
record Ends (cs : List ℕ) : Type 0 where
  pub bars : Bars (passes Digit) cs
  pub no_part : part_at cs ≡ Ok (None, cs)
  pub no_time : taken character.upper_t cs ≡ (false, cs)
  pub no_second : taken character.colon cs ≡ (false, cs)
  pub no_offset : offset_at cs ≡ Ok (None, cs)

ends-nothing : Ends []
unfolding part_at
ends-nothing = record { bars = tt; no_part = refl; no_time = refl; no_second = refl; no_offset = refl }

ends-slash : (cs : List ℕ) → Ends (47 ∷ cs)
unfolding part_at passes
ends-slash cs = record { bars = refl; no_part = refl; no_time = refl; no_second = refl; no_offset = refl }

ends-question : (cs : List ℕ) → Ends (63 ∷ cs)
unfolding part_at passes
ends-question cs = record { bars = refl; no_part = refl; no_time = refl; no_second = refl; no_offset = refl }

ends-tilde : (cs : List ℕ) → Ends (126 ∷ cs)
unfolding part_at passes
ends-tilde cs = record { bars = refl; no_part = refl; no_time = refl; no_second = refl; no_offset = refl }

ends-space : (cs : List ℕ) → Ends (160 ∷ cs)
unfolding part_at passes
ends-space cs = record { bars = refl; no_part = refl; no_time = refl; no_second = refl; no_offset = refl }

ends-percent : (cs : List ℕ) → Ends (37 ∷ cs)
unfolding part_at passes
ends-percent cs = record { bars = refl; no_part = refl; no_time = refl; no_second = refl; no_offset = refl }

ends-mark : (cs rest : List ℕ) (m : Bool × Bool) → IsMark cs m rest → Ends rest → Ends cs
ends-mark cs rest (true, false) e ends = subst Ends (sym e) (ends-question rest)
ends-mark cs rest (false, true) (inl e) ends = subst Ends (sym e) (ends-tilde rest)
ends-mark cs rest (false, true) (inr e) ends = subst Ends (sym e) (ends-space rest)
ends-mark cs rest (true, true) e ends = subst Ends (sym e) (ends-percent rest)
ends-mark cs rest (false, false) e ends = subst Ends (sym e) ends

mark_again : (cs rest : List ℕ) (u a : Bool) → IsMark cs (u, a) rest → mark_at rest ≡ (no_mark, rest) → mark_at cs ≡ (record { uncertain = u; approximate = a }, rest)
mark_again cs rest true false e end = ap mark_at e
mark_again cs rest false true (inl e) end = ap mark_at e
mark_again cs rest false true (inr e) end = ap mark_at e
mark_again cs rest true true e end = ap mark_at e
mark_again cs rest false false e end = ap mark_at e ∙ end

-- what is no digit stands there
bars-at : (c : ℕ) (cs rest : List ℕ) → cs ≡ c ∷ rest → passes Digit c ≡ false → Bars (passes Digit) cs
bars-at c cs rest e is = subst (λ (x : List ℕ). Bars (passes Digit) x) (sym e) is

colon-bars : passes Digit 58 ≡ false
unfolding passes
colon-bars = refl

hyphen-bars : passes Digit 45 ≡ false
unfolding passes
hyphen-bars = refl

time-bars : passes Digit 84 ≡ false
unfolding passes
time-bars = refl

zone-bars : passes Digit 90 ≡ false
unfolding passes
zone-bars = refl

plus-bars : passes Digit 43 ≡ false
unfolding passes
plus-bars = refl

minutes-again : (cs rest : List ℕ) (h m : ℕ) → IsMinutes cs (h, m) rest → Bars (passes Digit) rest → minutes_at cs ≡ Ok ((h, m), rest)
unfolding minutes_at
minutes-again cs rest h m (a, hours, minutes) bars =
    let hour = number-again 2 2 cs (58 ∷ a) h hours colon-bars in
    let minute = number-again 2 2 a rest m minutes bars in
    rw (hour, minute) refl

-- what may follow minutes or seconds
record EndsClock (cs : List ℕ) : Type 0 where
  pub bars : Bars (passes Digit) cs
  pub no_second : taken character.colon cs ≡ (false, cs)

ends-offset : (cs rest : List ℕ) (o : Option TimeOffset) → IsOffset cs o rest → Ends rest → EndsClock cs
ends-offset cs rest None e ends = subst EndsClock (sym e) (record { bars = ends.bars; no_second = ends.no_second })
ends-offset cs rest (Some Utc) e ends = subst EndsClock (sym e) (record { bars = zone-bars; no_second = refl })
ends-offset cs rest (Some (Offset true h m)) (a, e, is) ends = subst EndsClock (sym e) (record { bars = plus-bars; no_second = refl })
ends-offset cs rest (Some (Offset false h m)) (a, e, is) ends = subst EndsClock (sym e) (record { bars = hyphen-bars; no_second = refl })

offset-again : (cs rest : List ℕ) (o : Option TimeOffset) → IsOffset cs o rest → Ends rest → offset_at cs ≡ Ok (o, rest)
offset-again cs rest None e ends = ap offset_at e ∙ ends.no_offset
offset-again cs rest (Some Utc) e ends = ap offset_at e
offset-again cs rest (Some (Offset true h m)) (a, e, is) ends = ap offset_at e ∙ (let minutes = minutes-again a rest h m is ends.bars in rw minutes refl)
offset-again cs rest (Some (Offset false h m)) (a, e, is) ends = ap offset_at e ∙ (let minutes = minutes-again a rest h m is ends.bars in rw minutes refl)

seconds-again : (cs rest : List ℕ) (n : ℕ) → IsSeconds cs n rest → EndsClock rest → seconds_after (taken character.colon cs) ≡ Ok (n, rest)
seconds-again cs rest n (inl (a, e, is)) ends = ap (λ (x : List ℕ). seconds_after (taken character.colon x)) e ∙ number-again 2 2 a rest n is ends.bars
seconds-again cs rest n (inr (e, zero)) ends = ap (λ (x : List ℕ). seconds_after (taken character.colon x)) e ∙ (ap seconds_after ends.no_second ∙ ap (λ (k : ℕ). Ok (k, rest)) (sym zero))

seconds-bars : (cs rest : List ℕ) (n : ℕ) → IsSeconds cs n rest → EndsClock rest → Bars (passes Digit) cs
seconds-bars cs rest n (inl (a, e, is)) ends = bars-at 58 cs a e colon-bars
seconds-bars cs rest n (inr (e, zero)) ends = subst (λ (x : List ℕ). Bars (passes Digit) x) (sym e) ends.bars

clock-again : (cs rest : List ℕ) (t : Time) → IsClock cs t rest → Ends rest → clock_at cs ≡ Ok (t, rest)
unfolding clock_at
clock-again cs rest t (a, b, minutes, seconds, offset) ends =
    let ends_clock = ends-offset b rest t.offset offset ends in
    let m = minutes-again cs a t.hour t.minute minutes (seconds-bars a b t.second seconds ends_clock) in
    let s = seconds-again a b t.second seconds ends_clock in
    let o = offset-again b rest t.offset offset ends in
    rw (m, s, o) refl

time-again : (day : Option ℕ) (cs rest : List ℕ) (time : Option Time) → IsTime day cs time rest → Ends rest → time_at day cs ≡ Ok (time, rest)
time-again None cs rest None e ends = ap (λ (x : List ℕ). Ok (None, x)) e
time-again (Some d) cs rest None e ends = ap (time_at (Some d)) e ∙ (let other = ends.no_time in rw other refl)
time-again None cs rest (Some t) is ends = absurd is
time-again (Some d) cs rest (Some t) (a, e, is) ends = ap (time_at (Some d)) e ∙ (let clock = clock-again a rest t is ends in rw clock refl)

-- what may follow a month or a day
record EndsPart (cs : List ℕ) : Type 0 where
  pub bars : Bars (passes Digit) cs
  pub no_part : part_at cs ≡ Ok (None, cs)

ends-t : (cs : List ℕ) → EndsPart (84 ∷ cs)
unfolding part_at passes
ends-t cs = record { bars = refl; no_part = refl }

ends-time : (day : Option ℕ) (cs rest : List ℕ) (time : Option Time) → IsTime day cs time rest → Ends rest → EndsPart cs
ends-time None cs rest None e ends = subst EndsPart (sym e) (record { bars = ends.bars; no_part = ends.no_part })
ends-time (Some d) cs rest None e ends = subst EndsPart (sym e) (record { bars = ends.bars; no_part = ends.no_part })
ends-time None cs rest (Some t) is ends = absurd is
ends-time (Some d) cs rest (Some t) (a, e, is) ends = subst EndsPart (sym e) (ends-t a)

part-again : (cs rest : List ℕ) (part : Option ℕ) → IsPart cs part rest → Bars (passes Digit) rest → (part ≡ None → part_at rest ≡ Ok (None, rest)) → part_at cs ≡ Ok (part, rest)
unfolding part_at
part-again cs rest None e bars none = ap part_at e ∙ none refl
part-again cs rest (Some n) (a, e, is) bars none = ap part_at e ∙ (let d = number-again 1 2 a rest n is bars in rw d refl)

part-bars : (cs rest : List ℕ) (part : Option ℕ) → IsPart cs part rest → Bars (passes Digit) rest → Bars (passes Digit) cs
part-bars cs rest None e bars = subst (λ (x : List ℕ). Bars (passes Digit) x) (sym e) bars
part-bars cs rest (Some n) (a, e, is) bars = bars-at 45 cs a e hyphen-bars

day-again : (month : Option ℕ) (cs rest : List ℕ) (day : Option ℕ) → IsDay month cs day rest → EndsPart rest → part_at cs ≡ Ok (day, rest)
day-again None cs rest None e ends = ap part_at e ∙ ends.no_part
day-again None cs rest (Some d) is ends = absurd is
day-again (Some m) cs rest day is ends = part-again cs rest day is ends.bars (λ none. ends.no_part)

day-bars : (month : Option ℕ) (cs rest : List ℕ) (day : Option ℕ) → IsDay month cs day rest → EndsPart rest → Bars (passes Digit) cs
day-bars None cs rest None e ends = subst (λ (x : List ℕ). Bars (passes Digit) x) (sym e) ends.bars
day-bars None cs rest (Some d) is ends = absurd is
day-bars (Some m) cs rest day is ends = part-bars cs rest day is ends.bars

some_none : {X : Type 0} (x : X) → Some x ≡ None → ⊥
some_none x e = cc

day-none : (month : Option ℕ) (cs rest : List ℕ) (day : Option ℕ) → IsDay month cs day rest → EndsPart rest → month ≡ None → part_at cs ≡ Ok (None, cs)
day-none None cs rest None e ends none = subst (λ (x : List ℕ). part_at x ≡ Ok (None, x)) (sym e) ends.no_part
day-none None cs rest (Some d) is ends none = absurd is
day-none (Some m) cs rest day is ends none = absurd (some_none m none)

-- a digit is no hyphen
no_hyphen : (c : ℕ) → is_ascii_digit c ≡ true → eqb c 45 ≡ false
no_hyphen c is = grind (arith, nat_tests)

no-sign : (t rest : List ℕ) → AllPassTest is_ascii_digit t → 1 ≤ length t → taken character.hyphen (t ++ rest) ≡ (false, t ++ rest)
no-sign [] rest all some = absurd (omega arith)
no-sign (c ∷ t) rest all some = let other = no_hyphen c all.0 in rw other refl

sign-again : (cs a rest t : List ℕ) (negative : Bool) → IsSign cs negative a → IsYear a t rest → taken character.hyphen cs ≡ (negative, a)
sign-again cs a rest t true e year = ap (taken character.hyphen) e
sign-again cs a rest t false e ((f, all), some) = ap (taken character.hyphen) (e ∙ f) ∙ (no-sign t rest all some ∙ ap (λ (x : List ℕ). (false, x)) (sym f))

year-again : (cs t rest : List ℕ) → IsYear cs t rest → Bars (passes Digit) rest → reading.digits_at cs ≡ Ok (t, rest)
year-again cs t rest (are, some) bars =
    let c = cut cs t rest are bars in
    let filled : eqb (length t) 0 ≡ false = ne_eqb (length t) 0 (λ e. omega arith) in
    rw (c.prefix, c.after, filled) refl

side-again : (cs rest : List ℕ) (w : Written) → IsSide cs w rest → Ends rest → mark_at rest ≡ (no_mark, rest) → reading.written_at cs ≡ Ok (w, rest)
side-again cs rest w (a, b, c, d, e, sign, year, month, day, time, mark) ends end =
    let ends_e = ends-mark e rest (w.uncertain, w.approximate) mark ends in
    let ends_d = ends-time w.day d e w.time time ends_e in
    let bars_c = day-bars w.month c d w.day day ends_d in
    let bars_b = part-bars b c w.month month bars_c in
    let s = sign-again cs a b w.year w.negative sign year in
    let y = year-again a w.year b year bars_b in
    let m = part-again b c w.month month bars_c (day-none w.month c d w.day day ends_d) in
    let f = day-again w.month c d w.day day ends_d in
    let t = time-again w.day d e w.time time ends_e in
    let k = mark_again e rest w.uncertain w.approximate mark end in
    rw (s, y, m, f, t, k) refl

side-last : (cs : List ℕ) (w : Written) → IsSide cs w [] → reading.last_written cs ≡ Ok w
side-last cs w is = let s = side-again cs [] w is ends-nothing refl in rw s refl

side-slash : (cs a : List ℕ) (w : Written) → IsSide cs w (47 ∷ a) → reading.written_at cs ≡ Ok (w, 47 ∷ a)
side-slash cs a w is = side-again cs (47 ∷ a) w is (ends-slash a) refl

-- a text begins with a digit or a hyphen, and so with no slash and no full stop
record Opens (cs : List ℕ) : Type 0 where
  pub first : ℕ
  pub others : List ℕ
  pub is : cs ≡ first ∷ others
  pub no_slash : eqb first 47 ≡ false
  pub no_point : eqb first 46 ≡ false

no_slash : (c : ℕ) → is_ascii_digit c ≡ true → eqb c 47 ≡ false
no_slash c is = grind (arith, nat_tests)

no_point : (c : ℕ) → is_ascii_digit c ≡ true → eqb c 46 ≡ false
no_point c is = grind (arith, nat_tests)

opens-digits : (cs t rest : List ℕ) → cs ≡ t ++ rest → AllPassTest is_ascii_digit t → 1 ≤ length t → Opens cs
opens-digits cs [] rest e all some = absurd (omega arith)
opens-digits cs (c ∷ t) rest e all some = record { first = c; others = t ++ rest; is = e; no_slash = no_slash c all.0; no_point = no_point c all.0 }

opens-sign : (cs a t rest : List ℕ) (negative : Bool) → IsSign cs negative a → IsYear a t rest → Opens cs
opens-sign cs a t rest true e year = record { first = 45; others = a; is = e; no_slash = refl; no_point = refl }
opens-sign cs a t rest false e ((f, all), some) = opens-digits cs t rest (e ∙ f) all some

opens : (cs rest : List ℕ) (w : Written) → IsSide cs w rest → Opens cs
opens cs rest w (a, b, c, d, e, sign, year, month, day, time, mark) = opens-sign cs a w.year b w.negative sign year

no-opening : (cs : List ℕ) → Opens cs → opening_at cs ≡ Ok (false, cs)
no-opening cs o = subst (λ (x : List ℕ). opening_at x ≡ Ok (false, x)) (sym o.is) (let s = o.no_slash in let p = o.no_point in rw (s, p) refl)

slash-again : (v w : Written) (a : List ℕ) → Opens a → reading.last_written a ≡ Ok w → reading.after_slash v a ≡ Ok (both v w)
slash-again v w a o last =
    subst (λ (x : List ℕ). reading.last_written x ≡ Ok w → reading.after_slash v x ≡ Ok (both v w)) (sym o.is) (λ last. let p = o.no_point in rw (p, last) refl) last

open-again : (w : Written) (a : List ℕ) → IsOpen a [] → reading.after_slash w a ≡ Ok (since w)
open-again w a (inl e) = ap (reading.after_slash w) e
open-again w a (inr e) = ap (reading.after_slash w) e

opening-again : (cs a : List ℕ) → IsOpen cs (47 ∷ a) → opening_at cs ≡ Ok (true, a)
opening-again cs a (inl e) = ap opening_at e
opening-again cs a (inr e) = ap opening_at e

pub date-again : (cs : List ℕ) (s : Sides) → IsDate cs s → reading.sides_of cs ≡ Ok s
date-again cs (one w) is =
    let o = no-opening cs (opens cs [] w is) in
    let s = side-again cs [] w is ends-nothing refl in
    rw (o, s) refl
date-again cs (since w) (a, is, end) =
    let o = no-opening cs (opens cs (47 ∷ a) w is) in
    let s = side-slash cs a w is in
    rw (o, s) (open-again w a end)
date-again cs (until w) (a, start, is) =
    let o = opening-again cs a start in
    let s = side-last a w is in
    rw (o, s) refl
date-again cs (both v w) (a, is, last) =
    let o = no-opening cs (opens cs (47 ∷ a) v is) in
    let s = side-slash cs a v is in
    rw (o, s) (slash-again v w a (opens a [] w last) (side-last a w last))

-- no text is that of two dates
pub unique : (cs : List ℕ) (s t : Sides) → IsDate cs s → IsDate cs t → s ≡ t
unique cs s t is other = ok_is {F = Unreadable} s t (sym (date-again cs s is) ∙ date-again cs t other)
