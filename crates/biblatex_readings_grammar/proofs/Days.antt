-- The days of the calendar are those that the reader tests.
use Rattle.std.proofs.Common.{◌≡◌, ℕ, zero, suc, ◌≤◌, ◌<◌, ◌%◌, Bool, true, false, true≢false, cond, not, ◌&&◌, ◌||◌, eqb, leb, ℤ, pos, neg_ℤ, refl, sym, ap, ◌∙◌, subst, inl, inr, ◌⊎◌, arith}
use Rattle.std.proofs.lemmas.Bool.{eqb-true, eqb-false, eq-eqb, ne_eqb, leb-true, leb-false, and_from}
use Rattle.std.proofs.lemmas.Bool.Decides.{nat_tests}
use Rattle.std.specs.Prelude.{unsigned_abs}
use Rattle.std.specs.Int.{is_in_range}
use Rattle.jiff.specs.Words.{is_leap_year, days_in_month}
use Rattle.date_parts.specs.Calendar.{has_day}
use Rattle.biblatex_readings_grammar.specs.Calendar.{IsLeap, IsMonth, IsSeason, IsShort, HasDay}

pub in_range : (low high n : ℕ) → is_in_range low high n ≡ true → (low ≤ n) × (n ≤ high)
in_range low high n e = (grind (arith, nat_tests), grind (arith, nat_tests))

pub out_of_range : (low high n : ℕ) → is_in_range low high n ≡ false → low ≤ n → n ≤ high → ⊥
out_of_range low high n e some few = true≢false (sym (inside low high n some few) ∙ e)
  where
    inside : (low high n : ℕ) → low ≤ n → n ≤ high → is_in_range low high n ≡ true
    inside low high n some few = grind (arith, nat_tests)

leap-true : (u : ℕ) (a b c : Bool) → eqb (u % 4) 0 ≡ a → eqb (u % 100) 0 ≡ b → eqb (u % 400) 0 ≡ c → a && (not b || c) ≡ true → IsLeap u
leap-true u true b true f g h e = (eqb-true (u % 4) 0 f, λ _. eqb-true (u % 400) 0 h)
leap-true u true false false f g h e = (eqb-true (u % 4) 0 f, λ century. absurd (eqb-false (u % 100) 0 g century))
leap-true u true true false f g h e = absurd (true≢false (sym e))
leap-true u false b c f g h e = absurd (true≢false (sym e))

leap-false : (u : ℕ) (a b c : Bool) → eqb (u % 4) 0 ≡ a → eqb (u % 100) 0 ≡ b → eqb (u % 400) 0 ≡ c → a && (not b || c) ≡ false → IsLeap u → ⊥
leap-false u true true true f g h e is = true≢false e
leap-false u true false true f g h e is = true≢false e
leap-false u true false false f g h e is = true≢false e
leap-false u true true false f g h e is = eqb-false (u % 400) 0 h (is.1 (eqb-true (u % 100) 0 g))
leap-false u false b c f g h e is = eqb-false (u % 4) 0 f is.0

short-true : (m : ℕ) (a b c d : Bool) → eqb m 4 ≡ a → eqb m 6 ≡ b → eqb m 9 ≡ c → eqb m 11 ≡ d → a || b || c || d ≡ true → IsShort m
short-true m true b c d f g h k e = inl (eqb-true m 4 f)
short-true m false true c d f g h k e = inr (inl (eqb-true m 6 g))
short-true m false false true d f g h k e = inr (inr (inl (eqb-true m 9 h)))
short-true m false false false true f g h k e = inr (inr (inr (eqb-true m 11 k)))
short-true m false false false false f g h k e = absurd (true≢false (sym e))

short-false : (m : ℕ) (a b c d : Bool) → eqb m 4 ≡ a → eqb m 6 ≡ b → eqb m 9 ≡ c → eqb m 11 ≡ d → a || b || c || d ≡ false → IsShort m → ⊥
short-false m true b c d f g h k e is = true≢false e
short-false m false true c d f g h k e is = true≢false e
short-false m false false true d f g h k e is = true≢false e
short-false m false false false true f g h k e is = true≢false e
short-false m false false false false f g h k e (inl is) = eqb-false m 4 f is
short-false m false false false false f g h k e (inr (inl is)) = eqb-false m 6 g is
short-false m false false false false f g h k e (inr (inr (inl is))) = eqb-false m 9 h is
short-false m false false false false f g h k e (inr (inr (inr is))) = eqb-false m 11 k is

-- The length of a month, as the calendar has it.
abbrev Length : ℕ → ℕ → ℕ → Type 0
Length u m n = ((m ≡ 2) × IsLeap u × (n ≡ 29)) ⊎ (((m ≡ 2) × (IsLeap u → ⊥) × (n ≡ 28)) ⊎ (((m ≡ 2 → ⊥) × IsShort m × (n ≡ 30)) ⊎ ((m ≡ 2 → ⊥) × (IsShort m → ⊥) × (n ≡ 31))))

abbrev is_short : ℕ → Bool
is_short m = eqb m 4 || eqb m 6 || eqb m 9 || eqb m 11

length-is : (y : ℤ) (m : ℕ) → Length (unsigned_abs y) m (days_in_month y m)
length-is y m = by_tests (eqb m 2) (is_leap_year y) (is_short m) refl refl refl
  where
    u : ℕ
    u = unsigned_abs y

    by_tests : (two leap short : Bool) → eqb m 2 ≡ two → is_leap_year y ≡ leap → is_short m ≡ short → Length u m (cond two (cond leap 29 28) (cond short 30 31))
    by_tests true true short f g h = inl (eqb-true m 2 f, leap-true u (eqb (u % 4) 0) (eqb (u % 100) 0) (eqb (u % 400) 0) refl refl refl g, refl)
    by_tests true false short f g h = inr (inl (eqb-true m 2 f, leap-false u (eqb (u % 4) 0) (eqb (u % 100) 0) (eqb (u % 400) 0) refl refl refl g, refl))
    by_tests false leap true f g h = inr (inr (inl (eqb-false m 2 f, short-true m (eqb m 4) (eqb m 6) (eqb m 9) (eqb m 11) refl refl refl refl h, refl)))
    by_tests false leap false f g h = inr (inr (inr (eqb-false m 2 f, short-false m (eqb m 4) (eqb m 6) (eqb m 9) (eqb m 11) refl refl refl refl h, refl)))

abbrev Rest : ℕ → ℕ → ℕ → Type 0
Rest u m d = (d ≤ 28) ⊎ (((d ≡ 29) × (m ≡ 2) × IsLeap u) ⊎ (((d ≤ 30) × (m ≡ 2 → ⊥)) ⊎ ((d ≡ 31) × (m ≡ 2 → ⊥) × (IsShort m → ⊥))))

days-in : (u m n d : ℕ) → Length u m n → d ≤ n → Rest u m d
days-in u m n d length few = by_28 (leb d 28) refl length
  where
    by_30 : (b : Bool) → leb d 30 ≡ b → (m ≡ 2 → ⊥) → (IsShort m → ⊥) → n ≡ 31 → Rest u m d
    by_30 true t two short e = inr (inr (inl (leb-true d 30 t, two)))
    by_30 false t two short e =
        let more = leb-false d 30 t in
        inr (inr (inr (omega arith, two, short)))

    by_28 : (b : Bool) → leb d 28 ≡ b → Length u m n → Rest u m d
    by_28 true t length = inl (leb-true d 28 t)
    by_28 false t (inl (two, leap, e)) =
        let more = leb-false d 28 t in
        inr (inl (omega arith, two, leap))
    by_28 false t (inr (inl (two, leap, e))) =
        let more = leb-false d 28 t in
        absurd (omega arith)
    by_28 false t (inr (inr (inl (two, short, e)))) = inr (inr (inl (omega arith, two)))
    by_28 false t (inr (inr (inr (two, short, e)))) = by_30 (leb d 30) refl two short e

in-days : (u m n d : ℕ) → Length u m n → Rest u m d → d ≤ n
in-days u m n d (inl (two, leap, e)) (inl few) = omega arith
in-days u m n d (inr (inl (two, leap, e))) (inl few) = omega arith
in-days u m n d (inr (inr (inl (two, short, e)))) (inl few) = omega arith
in-days u m n d (inr (inr (inr (two, short, e)))) (inl few) = omega arith
in-days u m n d (inl (two, leap, e)) (inr (inl (last, is, year))) = omega arith
in-days u m n d (inr (inl (two, leap, e))) (inr (inl (last, is, year))) = absurd (leap year)
in-days u m n d (inr (inr (inl (two, short, e)))) (inr (inl (last, is, year))) = absurd (two is)
in-days u m n d (inr (inr (inr (two, short, e)))) (inr (inl (last, is, year))) = absurd (two is)
in-days u m n d (inl (two, leap, e)) (inr (inr (inl (few, other)))) = absurd (other two)
in-days u m n d (inr (inl (two, leap, e))) (inr (inr (inl (few, other)))) = absurd (other two)
in-days u m n d (inr (inr (inl (two, short, e)))) (inr (inr (inl (few, other)))) = omega arith
in-days u m n d (inr (inr (inr (two, short, e)))) (inr (inr (inl (few, other)))) = omega arith
in-days u m n d (inl (two, leap, e)) (inr (inr (inr (last, other, long)))) = absurd (other two)
in-days u m n d (inr (inl (two, leap, e))) (inr (inr (inr (last, other, long)))) = absurd (other two)
in-days u m n d (inr (inr (inl (two, short, e)))) (inr (inr (inr (last, other, long)))) = absurd (long short)
in-days u m n d (inr (inr (inr (two, short, e)))) (inr (inr (inr (last, other, long)))) = omega arith

pub day-true : (y : ℤ) (u m d : ℕ) → unsigned_abs y ≡ u → has_day y m d ≡ true → HasDay u m d
day-true y u m d same e =
    let r = in_range 1 (days_in_month y m) d e in
    (r.0, subst (λ (k : ℕ). Rest k m d) same (days-in (unsigned_abs y) m (days_in_month y m) d (length-is y m) r.1))

pub day-false : (y : ℤ) (u m d : ℕ) → unsigned_abs y ≡ u → has_day y m d ≡ false → HasDay u m d → ⊥
day-false y u m d same e has =
    out_of_range 1 (days_in_month y m) d e has.0 (in-days (unsigned_abs y) m (days_in_month y m) d (length-is y m) (subst (λ (k : ℕ). Rest k m d) (sym same) has.1))
