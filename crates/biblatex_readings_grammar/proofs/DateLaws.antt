-- What is read of a date is what the grammar and the calendar relate to its text.
use Rattle.std.proofs.Common.{◌≡◌, ℕ, Bool, ◌||◌, List, [], ◌∷◌, Option, Some, None, Result, Ok, Err, refl, sym, ap, ◌∙◌, subst, inl, inr}
use Rattle.laws.specs.Results.{◌>>=◌}
use Rattle.texts.specs.declared.reader.Unreadable.{Unreadable}
use Rattle.biblatex_dates.specs.Shape.{shape_of, date_of}
use Rattle.biblatex_dates.specs.declared.date.Date.{Date}
use Rattle.biblatex_dates.specs.declared.date.DateValue.{DateValue}
use Rattle.biblatex_dates.specs.declared.date.DateValue.TheVariants.{At, After, Before, Between}
use Rattle.biblatex_dates.specs.declared.datetime.Datetime.{Datetime}
use Rattle.biblatex_dates.specs.declared.datetime.Time.{Time}
use Rattle.biblatex_dates.specs.declared.error.TypeErrorKind.{TypeErrorKind}
use Rattle.biblatex_readings_grammar.specs.Sides.{Written, Sides, one, since, until, both, IsTime, IsSide, IsDate}
use Rattle.biblatex_readings_grammar.specs.Meaning.{MeansSide, MeansValue, MeansDate, HasFault, IsAnswer}
use Rattle.biblatex_readings_grammar.proofs.Written.{meant, marked, answer, answered, sides_of, dated}
use Rattle.biblatex_readings_grammar.proofs.DateAgain.{date-again, unique}
use Rattle.biblatex_readings_grammar.proofs.DateTakes.{date-takes}
use Rattle.biblatex_readings_grammar.proofs.Meant.{IsDated, Outcome, outcome, means-same, not-both, fault-same}

some_none : {X : Type 0} (x : X) → Some x ≡ None → ⊥
some_none x e = cc

timed : (day : Option ℕ) (cs rest : List ℕ) (time : Option Time) → IsTime day cs time rest → day ≡ None → time ≡ None
timed None cs rest None is e = refl
timed None cs rest (Some t) is e = absurd is
timed (Some d) cs rest time is e = absurd (some_none d e)

side-timed : (cs rest : List ℕ) (w : Written) → IsSide cs w rest → IsDated w
side-timed cs rest w (a, b, c, d, e, sign, year, month, day, time, mark) = timed w.day d e w.time time

-- no side has a time without a day
abbrev AreDated : Sides → Type 0
AreDated (one w) = IsDated w
AreDated (since w) = IsDated w
AreDated (until w) = IsDated w
AreDated (both w x) = IsDated w × IsDated x

sides-timed : (cs : List ℕ) (s : Sides) → IsDate cs s → AreDated s
sides-timed cs (one w) is = side-timed cs [] w is
sides-timed cs (since w) (a, is, end) = side-timed cs (47 ∷ a) w is
sides-timed cs (until w) (a, start, is) = side-timed a [] w is
sides-timed cs (both w x) (a, is, last) = (side-timed cs (47 ∷ a) w is, side-timed a [] x last)

-- what the sides mean, or their fault
abbrev Told : Sides → Result Date TypeErrorKind → Type 0
Told s (Ok d) = MeansDate s d
Told s (Err f) = HasFault s f

told : (s : Sides) → AreDated s → Told s (answer s)
told (one w) time = by_side (meant w) (outcome w time)
  where
    by_side : (r : Result Datetime TypeErrorKind) → Outcome w r → Told (one w) (marked w.uncertain w.approximate (r >>= λ d. Ok (At d)))
    by_side (Ok d) is = ((d, is, refl), refl, refl)
    by_side (Err f) is = is
told (since w) time = by_side (meant w) (outcome w time)
  where
    by_side : (r : Result Datetime TypeErrorKind) → Outcome w r → Told (since w) (marked w.uncertain w.approximate (r >>= λ d. Ok (After d)))
    by_side (Ok d) is = ((d, is, refl), refl, refl)
    by_side (Err f) is = is
told (until w) time = by_side (meant w) (outcome w time)
  where
    by_side : (r : Result Datetime TypeErrorKind) → Outcome w r → Told (until w) (marked w.uncertain w.approximate (r >>= λ d. Ok (Before d)))
    by_side (Ok d) is = ((d, is, refl), refl, refl)
    by_side (Err f) is = is
told (both w x) time = by_first (meant w) (outcome w time.0)
  where
    by_second : (c : Datetime) → MeansSide w c → (r : Result Datetime TypeErrorKind) → Outcome x r → Told (both w x) (marked (w.uncertain || x.uncertain) (w.approximate || x.approximate) (r >>= λ d. Ok (Between c d)))
    by_second c is (Ok d) other = ((c, d, is, other, refl), refl, refl)
    by_second c is (Err f) other = inr (is.0, other)

    by_first : (r : Result Datetime TypeErrorKind) → Outcome w r → Told (both w x) (marked (w.uncertain || x.uncertain) (w.approximate || x.approximate) (r >>= λ c. meant x >>= λ d. Ok (Between c d)))
    by_first (Ok c) is = by_second c is (meant x) (outcome x time.1)
    by_first (Err f) is = inl is

value-same : (s : Sides) (v u : DateValue) → MeansValue s v → MeansValue s u → v ≡ u
value-same (one w) v u (c, is, e) (d, other, f) = e ∙ (ap (λ (x : Datetime). At x) (means-same w c d is other) ∙ sym f)
value-same (since w) v u (c, is, e) (d, other, f) = e ∙ (ap (λ (x : Datetime). After x) (means-same w c d is other) ∙ sym f)
value-same (until w) v u (c, is, e) (d, other, f) = e ∙ (ap (λ (x : Datetime). Before x) (means-same w c d is other) ∙ sym f)
value-same (both w x) v u (a, b, is, last, e) (c, d, other, end, f) = e ∙ ((λ i. Between (means-same w a c is other i) (means-same x b d last end i)) ∙ sym f)

date-same : (s : Sides) (c d : Date) → MeansDate s c → MeansDate s d → c ≡ d
date-same s c d (v, e, f) (u, g, h) = λ i. record { value = value-same s c.value d.value v u i; uncertain = (e ∙ sym g) i; approximate = (f ∙ sym h) i }

never : (s : Sides) (v : DateValue) (f : TypeErrorKind) → MeansValue s v → HasFault s f → ⊥
never (one w) v f (d, is, e) fault = not-both w f is.0 fault
never (since w) v f (d, is, e) fault = not-both w f is.0 fault
never (until w) v f (d, is, e) fault = not-both w f is.0 fault
never (both w x) v f (c, d, is, last, e) (inl fault) = not-both w f is.0 fault
never (both w x) v f (c, d, is, last, e) (inr (good, fault)) = not-both x f last.0 fault

has-same : (s : Sides) (f g : TypeErrorKind) → HasFault s f → HasFault s g → f ≡ g
has-same (one w) f g is other = fault-same w f g is other
has-same (since w) f g is other = fault-same w f g is other
has-same (until w) f g is other = fault-same w f g is other
has-same (both w x) f g (inl is) (inl other) = fault-same w f g is other
has-same (both w x) f g (inl is) (inr (good, other)) = absurd (not-both w f good is)
has-same (both w x) f g (inr (good, is)) (inl other) = absurd (not-both w g good other)
has-same (both w x) f g (inr (good, is)) (inr (fine, other)) = fault-same x f g is other

told-same : (s : Sides) (q r : Result Date TypeErrorKind) → Told s q → Told s r → q ≡ r
told-same s (Ok c) (Ok d) is other = ap (λ (x : Date). Ok x) (date-same s c d is other)
told-same s (Ok c) (Err f) is other = absurd (never s c.value f is.0 other)
told-same s (Err f) (Ok d) is other = absurd (never s d.value f other.0 is)
told-same s (Err f) (Err g) is other = ap (λ (x : TypeErrorKind). Err x) (has-same s f g is other)

-- what one text has for two lists of sides it has for one
shared : (cs : List ℕ) (s t : Sides) (q r : Result Date TypeErrorKind) → IsDate cs s → IsDate cs t → Told s q → Told t r → q ≡ r
shared cs s t q r is other m n = told-same s q r m (subst (λ (x : Sides). Told x r) (unique cs t s other is) n)

answer-same : (cs : List ℕ) (q r : Result Date TypeErrorKind) → IsAnswer cs q → IsAnswer cs r → q ≡ r
answer-same cs (Ok c) (Ok d) (s, is, m) (t, other, n) = shared cs s t (Ok c) (Ok d) is other m n
answer-same cs (Ok c) (Err f) (s, is, m) (inl (t, other, n)) = shared cs s t (Ok c) (Err f) is other m n
answer-same cs (Ok c) (Err f) (s, is, m) (inr (e, none)) = absurd (none s is)
answer-same cs (Err f) (Ok d) (inl (s, is, m)) (t, other, n) = shared cs s t (Err f) (Ok d) is other m n
answer-same cs (Err f) (Ok d) (inr (e, none)) (t, other, n) = absurd (none t other)
answer-same cs (Err f) (Err g) (inl (s, is, m)) (inl (t, other, n)) = shared cs s t (Err f) (Err g) is other m n
answer-same cs (Err f) (Err g) (inl (s, is, m)) (inr (e, none)) = absurd (none s is)
answer-same cs (Err f) (Err g) (inr (e, none)) (inl (t, other, n)) = absurd (none t other)
answer-same cs (Err f) (Err g) (inr (e, none)) (inr (h, nothing)) = ap (λ (x : TypeErrorKind). Err x) (e ∙ sym h)

related : (cs : List ℕ) (s : Sides) (r : Result Date TypeErrorKind) → IsDate cs s → Told s r → IsAnswer cs r
related cs s (Ok d) is m = (s, is, m)
related cs s (Err f) is m = inl (s, is, m)

no_sides : (s : Sides) (f : Unreadable) → ◌≡◌ {A = Result Sides Unreadable} (Ok s) (Err f) → ⊥
no_sides s f e = cc

answer-is : (cs : List ℕ) → IsAnswer cs (answered (sides_of cs))
answer-is cs = by_sides (sides_of cs) refl
  where
    by_sides : (r : Result Sides Unreadable) → sides_of cs ≡ r → IsAnswer cs (answered r)
    by_sides (Ok s) e =
        let is = date-takes cs s e in
        related cs s (answer s) is (told s (sides-timed cs s is))
    by_sides (Err f) e = inr (refl, λ s is. no_sides s f (sym (date-again cs s is) ∙ e))

pub read-is : (cs : List ℕ) (r : Result Date TypeErrorKind) → date_of (shape_of cs) ≡ r → IsAnswer cs r
read-is cs r e = subst (λ (x : Result Date TypeErrorKind). IsAnswer cs x) (sym (dated cs) ∙ e) (answer-is cs)

pub is-read : (cs : List ℕ) (r : Result Date TypeErrorKind) → IsAnswer cs r → date_of (shape_of cs) ≡ r
is-read cs r is = dated cs ∙ answer-same cs (answered (sides_of cs)) r (answer-is cs) is
