-- What is read of a text as a date the grammar relates to it.
use Rattle.std.proofs.Common.{◌≡◌, ℕ, ◌≤◌, Bool, true, false, cond, ◌||◌, eqb, List, [], ◌∷◌, ◌++◌, length, Option, Some, None, Result, Ok, Err, refl, sym, ap, ◌∙◌, subst, inl, inr, arith}
use Rattle.std.proofs.lemmas.Bool.{eqb-true, eqb-false}
use Rattle.laws.specs.Characters as character
use Rattle.laws.specs.Results.{◌>>=◌}
use Rattle.laws.specs.Runs.{prefix_of, after}
use Rattle.laws.proofs.Results.{bind_ok, ok_is, guard_ok, test_ok}
use Rattle.texts.specs.Character.{passes}
use Rattle.texts.specs.Reading.{digits_at, taken, token_at, end_at}
use Rattle.texts.specs.declared.character.Class.TheVariants.{Digit}
use Rattle.texts.specs.declared.reader.Unreadable.{Unreadable}
use Rattle.texts.specs.declared.reader.Unreadable.TheVariants.{NotThere}
use Rattle.date_parts.specs.Parts.{part_at, part_after}
use Rattle.biblatex_dates.specs.Side.{minutes_at, seconds_after, offset_at, signed_offset_at, clock_at, clock_after, time_at, mark_at, no_mark}
use Rattle.biblatex_dates.specs.Shape.{opening_at}
use Rattle.biblatex_dates.specs.declared.datetime.Time.{Time}
use Rattle.biblatex_dates.specs.declared.datetime.TimeOffset.{TimeOffset}
use Rattle.biblatex_dates.specs.declared.datetime.TimeOffset.TheVariants.{Utc, Offset}
use Rattle.biblatex_readings_grammar.specs.Sides.{Written, Sides, one, since, until, both, AreDigits, IsNumber, IsSign, IsYear, IsPart, IsDay, IsMinutes, IsSeconds, IsOffset, IsClock, IsTime, IsMark, IsSide, IsOpen, IsDate}
use Rattle.biblatex_readings_grammar.proofs.Digits.{given, run, number-takes, IsTaken, taken-is}
use Rattle.biblatex_readings_grammar.proofs.Written as reading

token-takes : (c : ℕ) (cs rest : List ℕ) → token_at c cs ≡ Ok rest → cs ≡ c ∷ rest
token-takes c [] rest e = absurd cc
token-takes c (d ∷ cs) rest e =
    let t = test_ok (eqb d c) (Ok cs) NotThere rest e in
    ap (λ (x : ℕ). x ∷ cs) (eqb-true d c t.0) ∙ ap (λ (x : List ℕ). c ∷ x) (ok_is {F = Unreadable} cs rest t.1)

end-takes : (cs rest : List ℕ) → end_at cs ≡ Ok rest → cs ≡ []
end-takes [] rest e = refl
end-takes (c ∷ cs) rest e = absurd cc

sign-takes : (cs : List ℕ) (t : Bool × List ℕ) → IsTaken 45 cs t → IsSign cs t.0 t.1
sign-takes cs (true, rest) is = is
sign-takes cs (false, rest) is = is

year-takes : (cs : List ℕ) (p : List ℕ × List ℕ) → reading.digits_at cs ≡ Ok p → IsYear cs p.0 p.1
year-takes cs p e =
    let ds : List ℕ = prefix_of (passes Digit) cs in
    let t = guard_ok (eqb (length ds) 0) (Ok (ds, after (passes Digit) cs)) NotThere p e in
    let some = eqb-false (length ds) 0 t.0 in
    given (λ (q : List ℕ × List ℕ). IsYear cs q.0 q.1) (ds, after (passes Digit) cs) p t.1 (run cs, filled (length ds) some)
  where
    filled : (n : ℕ) → (n ≡ 0 → ⊥) → 1 ≤ n
    filled n not_zero = omega (arith, not_zero)

part-takes : (cs : List ℕ) (p : Option ℕ × List ℕ) → part_at cs ≡ Ok p → IsPart cs p.0 p.1
unfolding part_at
part-takes cs p e = by_taken (taken 45 cs) (taken-is 45 cs) e
  where
    Is : Option ℕ × List ℕ → Type 0
    Is q = IsPart cs q.0 q.1

    by_taken : (t : Bool × List ℕ) → IsTaken 45 cs t → part_after t ≡ Ok p → Is p
    by_taken (false, rest) is h = given Is (None, rest) p h is
    by_taken (true, rest) is h =
        let d = bind_ok (digits_at 1 2 rest) _ p h in
        given Is (Some d.0.0, d.0.1) p d.2 (rest, is, number-takes 1 2 rest d.0 d.1)

-- after nothing nothing more is read
part-none : (cs rest : List ℕ) (p : Option ℕ × List ℕ) → IsPart cs None rest → part_at cs ≡ Ok (None, rest) → part_at rest ≡ Ok p → IsDay None rest p.0 p.1
part-none cs rest p e h g = given (λ (q : Option ℕ × List ℕ). IsDay None rest q.0 q.1) (None, rest) p (sym (subst (λ (x : List ℕ). part_at x ≡ Ok (None, rest)) e h) ∙ g) refl

day-takes : (month : Option ℕ) (cs rest : List ℕ) (p : Option ℕ × List ℕ) → part_at cs ≡ Ok (month, rest) → part_at rest ≡ Ok p → IsDay month rest p.0 p.1
day-takes None cs rest p h g = part-none cs rest p (part-takes cs (None, rest) h) h g
day-takes (Some m) cs rest p h g = part-takes rest p g

minutes-takes : (cs : List ℕ) (p : (ℕ × ℕ) × List ℕ) → minutes_at cs ≡ Ok p → IsMinutes cs p.0 p.1
unfolding minutes_at
minutes-takes cs p e =
    let h = bind_ok (digits_at 2 2 cs) _ p e in
    let c = bind_ok (token_at 58 h.0.1) _ p h.2 in
    let m = bind_ok (digits_at 2 2 c.0) _ p c.2 in
    let hours = subst (λ (x : List ℕ). IsNumber 2 2 cs h.0.0 x) (token-takes 58 h.0.1 c.0 c.1) (number-takes 2 2 cs h.0 h.1) in
    given (λ (q : (ℕ × ℕ) × List ℕ). IsMinutes cs q.0 q.1) ((h.0.0, m.0.0), m.0.1) p m.2 (c.0, hours, number-takes 2 2 c.0 m.0 m.1)

seconds-takes : (cs : List ℕ) (p : ℕ × List ℕ) → seconds_after (taken 58 cs) ≡ Ok p → IsSeconds cs p.0 p.1
seconds-takes cs p e = by_taken (taken 58 cs) (taken-is 58 cs) e
  where
    by_taken : (t : Bool × List ℕ) → IsTaken 58 cs t → seconds_after t ≡ Ok p → IsSeconds cs p.0 p.1
    by_taken (false, rest) is h = given (λ (q : ℕ × List ℕ). IsSeconds cs q.0 q.1) (0, rest) p h (inr (is, refl))
    by_taken (true, rest) is h = inl (rest, is, number-takes 2 2 rest p h)

signed-takes : (positive : Bool) (c : ℕ) (cs : List ℕ) (p : Option TimeOffset × List ℕ) → ((h m : ℕ) (rest : List ℕ) → IsMinutes cs (h, m) rest → IsOffset (c ∷ cs) (Some (Offset positive h m)) rest) → signed_offset_at positive cs ≡ Ok p
    → IsOffset (c ∷ cs) p.0 p.1
signed-takes positive c cs p make e =
    let t = bind_ok (minutes_at cs) _ p e in
    given (λ (q : Option TimeOffset × List ℕ). IsOffset (c ∷ cs) q.0 q.1) (Some (Offset positive t.0.0.0 t.0.0.1), t.0.1) p t.2 (make t.0.0.0 t.0.0.1 t.0.1 (minutes-takes cs t.0 t.1))

offset-takes : (cs : List ℕ) (p : Option TimeOffset × List ℕ) → offset_at cs ≡ Ok p → IsOffset cs p.0 p.1
offset-takes [] p e = given (λ (q : Option TimeOffset × List ℕ). IsOffset [] q.0 q.1) (None, []) p e refl
offset-takes (c ∷ cs) p e = by_tests (eqb c 90) (eqb c 43) (eqb c 45) refl refl refl e
  where
    Is : Option TimeOffset × List ℕ → Type 0
    Is q = IsOffset (c ∷ cs) q.0 q.1

    read : Bool → Bool → Bool → Result (Option TimeOffset × List ℕ) Unreadable
    read z plus minus = cond z (Ok (Some Utc, cs)) (cond plus (signed_offset_at true cs) (cond minus (signed_offset_at false cs) (Ok (None, c ∷ cs))))

    by_tests : (z plus minus : Bool) → eqb c 90 ≡ z → eqb c 43 ≡ plus → eqb c 45 ≡ minus → read z plus minus ≡ Ok p → Is p
    by_tests true plus minus is f g h = given Is (Some Utc, cs) p h (ap (λ (x : ℕ). x ∷ cs) (eqb-true c 90 is))
    by_tests false true minus f is g h = signed-takes true c cs p (λ hours m rest of. (cs, ap (λ (x : ℕ). x ∷ cs) (eqb-true c 43 is), of)) h
    by_tests false false true f g is h = signed-takes false c cs p (λ hours m rest of. (cs, ap (λ (x : ℕ). x ∷ cs) (eqb-true c 45 is), of)) h
    by_tests false false false f g is h = given Is (None, c ∷ cs) p h refl

clock-takes : (cs : List ℕ) (p : Time × List ℕ) → clock_at cs ≡ Ok p → IsClock cs p.0 p.1
unfolding clock_at
clock-takes cs p e =
    let m = bind_ok (minutes_at cs) _ p e in
    let s = bind_ok (seconds_after (taken 58 m.0.1)) _ p m.2 in
    let o = bind_ok (offset_at s.0.1) _ p s.2 in
    given (λ (q : Time × List ℕ). IsClock cs q.0 q.1) (record { hour = m.0.0.0; minute = m.0.0.1; second = s.0.0; offset = o.0.0 }, o.0.1) p o.2
    (m.0.1, s.0.1, minutes-takes cs m.0 m.1, seconds-takes m.0.1 s.0 s.1, offset-takes s.0.1 o.0 o.1)

time-takes : (day : Option ℕ) (cs : List ℕ) (p : Option Time × List ℕ) → time_at day cs ≡ Ok p → IsTime day cs p.0 p.1
time-takes None cs p e = given (λ (q : Option Time × List ℕ). IsTime None cs q.0 q.1) (None, cs) p e refl
time-takes (Some d) cs p e = by_taken (taken 84 cs) (taken-is 84 cs) e
  where
    Is : Option Time × List ℕ → Type 0
    Is q = IsTime (Some d) cs q.0 q.1

    by_taken : (t : Bool × List ℕ) → IsTaken 84 cs t → clock_after t ≡ Ok p → Is p
    by_taken (false, rest) is h = given Is (None, rest) p h is
    by_taken (true, rest) is h =
        let t = bind_ok (clock_at rest) _ p h in
        given Is (Some t.0.0, t.0.1) p t.2 (rest, is, clock-takes rest t.0 t.1)

-- what a function gives
abbrev codomain : {A B : Type 0} → (A → B) → Type 0
codomain {A} {B} f = B

mark-takes : (cs : List ℕ) → IsMark cs ((mark_at cs).0.uncertain, (mark_at cs).0.approximate) (mark_at cs).1
mark-takes [] = refl
mark-takes (c ∷ cs) = by_tests (eqb c 63) (eqb c 126) (eqb c 160) (eqb c 37) refl refl refl refl
  where
    read : Bool → Bool → Bool → Bool → codomain mark_at
    read q t n p = cond q (record { uncertain = true; approximate = false }, cs) (cond (t || n) (record { uncertain = false; approximate = true }, cs) (cond p (record { uncertain = true; approximate = true }, cs) (no_mark, c ∷ cs)))

    by_tests : (q t n p : Bool) → eqb c 63 ≡ q → eqb c 126 ≡ t → eqb c 160 ≡ n → eqb c 37 ≡ p → IsMark (c ∷ cs) ((read q t n p).0.uncertain, (read q t n p).0.approximate) (read q t n p).1
    by_tests true t n p is f g h = ap (λ (x : ℕ). x ∷ cs) (eqb-true c 63 is)
    by_tests false true n p f is g h = inl (ap (λ (x : ℕ). x ∷ cs) (eqb-true c 126 is))
    by_tests false false true p f g is h = inr (ap (λ (x : ℕ). x ∷ cs) (eqb-true c 160 is))
    by_tests false false false true f g h is = ap (λ (x : ℕ). x ∷ cs) (eqb-true c 37 is)
    by_tests false false false false f g h is = refl

pub side-takes : (cs : List ℕ) (p : Written × List ℕ) → reading.written_at cs ≡ Ok p → IsSide cs p.0 p.1
side-takes cs p e =
    let negative : Bool = (taken 45 cs).0 in
    let a : List ℕ = (taken 45 cs).1 in
    let y = bind_ok (reading.digits_at a) (reading.with_month negative) p e in
    let m = bind_ok (part_at y.0.1) (reading.with_day negative y.0.0) p y.2 in
    let d = bind_ok (part_at m.0.1) (reading.with_time negative y.0.0 m.0.0) p m.2 in
    let t = bind_ok (time_at d.0.0 d.0.1) (reading.with_mark negative y.0.0 m.0.0 d.0.0) p d.2 in
    given (λ (q : Written × List ℕ). IsSide cs q.0 q.1) (reading.made negative y.0.0 m.0.0 d.0.0 t.0) p t.2
    (a, y.0.1, m.0.1, d.0.1, t.0.1, sign-takes cs (taken 45 cs) (taken-is 45 cs), year-takes a y.0 y.1, part-takes y.0.1 m.0 m.1, day-takes m.0.0 y.0.1 m.0.1 d.0 m.1 d.1, time-takes d.0.0 d.0.1 t.0 t.1, mark-takes t.0.1)

last-takes : (cs : List ℕ) (w : Written) → reading.last_written cs ≡ Ok w → IsSide cs w []
last-takes cs w e =
    let s = bind_ok (reading.written_at cs) _ w e in
    let end = bind_ok (end_at s.0.1) _ w s.2 in
    given (λ (x : Written). IsSide cs x []) s.0.0 w end.2 (subst (λ (x : List ℕ). IsSide cs s.0.0 x) (end-takes s.0.1 end.0 end.1) (side-takes cs s.0 s.1))

points-takes : (w : Written) (cs : List ℕ) (s : Sides) → (token_at 46 cs >>= λ points. end_at points >>= λ rest. Ok (since w)) ≡ Ok s → (cs ≡ 46 ∷ []) × (◌≡◌ {A = Result Sides Unreadable} (Ok (since w)) (Ok s))
points-takes w cs s e =
    let t = bind_ok (token_at 46 cs) _ s e in
    let end = bind_ok (end_at t.0) _ s t.2 in
    (token-takes 46 cs t.0 t.1 ∙ ap (λ (x : List ℕ). 46 ∷ x) (end-takes t.0 end.0 end.1), end.2)

-- after a side and a slash
slash-takes : (cs rest : List ℕ) (w : Written) (s : Sides) → IsSide cs w (47 ∷ rest) → reading.after_slash w rest ≡ Ok s → IsDate cs s
slash-takes cs [] w s is e = given (λ (x : Sides). IsDate cs x) (since w) s e ([], is, inr refl)
slash-takes cs (c ∷ rest) w s is e = by_test (eqb c 46) refl e
  where
    read : Bool → Result Sides Unreadable
    read b = cond b (token_at 46 rest >>= λ points. end_at points >>= λ rest. Ok (since w)) (reading.last_written (c ∷ rest) >>= λ x. Ok (both w x))

    by_test : (b : Bool) → eqb c 46 ≡ b → read b ≡ Ok s → IsDate cs s
    by_test true point h =
        let p = points-takes w rest s h in
        given (λ (x : Sides). IsDate cs x) (since w) s p.1 (c ∷ rest, is, inl ((λ i. eqb-true c 46 point i ∷ p.0 i)))
    by_test false point h =
        let x = bind_ok (reading.last_written (c ∷ rest)) _ s h in
        given (λ (y : Sides). IsDate cs y) (both w x.0) s x.2 (c ∷ rest, is, last-takes (c ∷ rest) x.0 x.1)

first-takes : (cs rest : List ℕ) (w : Written) (t : Bool × List ℕ) (s : Sides) → IsTaken 47 rest t → IsSide cs w rest → reading.after_first w t ≡ Ok s → IsDate cs s
first-takes cs rest w (false, after) s is side e =
    let end = bind_ok (end_at after) _ s e in
    given (λ (x : Sides). IsDate cs x) (one w) s end.2 (subst (λ (x : List ℕ). IsSide cs w x) (is ∙ end-takes after end.0 end.1) side)
first-takes cs rest w (true, after) s is side e = slash-takes cs after w s (subst (λ (x : List ℕ). IsSide cs w x) is side) e

-- an open start, or none
abbrev IsOpening : List ℕ → Bool × List ℕ → Type 0
IsOpening cs (true, rest) = IsOpen cs (47 ∷ rest)
IsOpening cs (false, rest) = cs ≡ rest

opening-takes : (cs : List ℕ) (p : Bool × List ℕ) → opening_at cs ≡ Ok p → IsOpening cs p
opening-takes [] p e = given (λ (q : Bool × List ℕ). IsOpening [] q) (false, []) p e refl
opening-takes (c ∷ cs) p e = by_tests (eqb c 47) (eqb c 46) refl refl e
  where
    Is : Bool × List ℕ → Type 0
    Is q = IsOpening (c ∷ cs) q

    yes_open : List ℕ → Result (Bool × List ℕ) Unreadable
    yes_open rest = Ok (true, rest)

    opened : List ℕ → Result (Bool × List ℕ) Unreadable
    opened points = token_at 47 points >>= yes_open

    points : Result (Bool × List ℕ) Unreadable
    points = token_at 46 cs >>= opened

    read : Bool → Bool → Result (Bool × List ℕ) Unreadable
    read slash point = cond slash (Ok (true, cs)) (cond point points (Ok (false, c ∷ cs)))

    by_tests : (slash point : Bool) → eqb c 47 ≡ slash → eqb c 46 ≡ point → read slash point ≡ Ok p → Is p
    by_tests true point is f h = given Is (true, cs) p h (inr (ap (λ (x : ℕ). x ∷ cs) (eqb-true c 47 is)))
    by_tests false true f is h =
        let t = bind_ok (token_at 46 cs) opened p h in
        let u = bind_ok (token_at 47 t.0) yes_open p t.2 in
        let q = token-takes 46 cs t.0 t.1 ∙ ap (λ (x : List ℕ). 46 ∷ x) (token-takes 47 t.0 u.0 u.1) in
        given Is (true, u.0) p u.2 (inl (λ i. eqb-true c 46 is i ∷ q i))
    by_tests false false f g h = given Is (false, c ∷ cs) p h refl

pub date-takes : (cs : List ℕ) (s : Sides) → reading.sides_of cs ≡ Ok s → IsDate cs s
date-takes cs s e =
    let o = bind_ok (opening_at cs) reading.after_opening s e in
    by_opening o.0 (opening-takes cs o.0 o.1) o.2
  where
    by_opening : (p : Bool × List ℕ) → IsOpening cs p → reading.after_opening p ≡ Ok s → IsDate cs s
    by_opening (true, rest) is h =
        let x = bind_ok (reading.last_written rest) _ s h in
        given (λ (y : Sides). IsDate cs y) (until x.0) s x.2 (rest, is, last-takes rest x.0 x.1)
    by_opening (false, rest) is h =
        let x = bind_ok (reading.written_at rest) _ s h in
        first-takes cs x.0.1 x.0.0 (taken 47 x.0.1) s (taken-is 47 x.0.1) (subst (λ (y : List ℕ). IsSide y x.0.0 x.0.1) (sym is) (side-takes rest x.0 x.1)) x.2
