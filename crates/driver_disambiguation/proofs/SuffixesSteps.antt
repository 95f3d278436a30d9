-- Entries of a class, and their year suffixes.
use Rattle.std.proofs.Common.{arith, ◌≡◌, ℕ, suc, ◌+◌, ◌<◌, ◌≤◌, Bool, true, false, cond, ◌||◌, List, [], ◌∷◌, ◌++◌, map, length, take, get_or, refl, sym, ap, ◌∙◌}
use Rattle.std.specs.Prelude.{nat_eq, nat_le, Ok, Err}
use Rattle.std.specs.Borrow.{Bor}
use Rattle.std.specs.List.{list_any, enumerate_from}
use Rattle.std.specs.Ordering.{nat_cmp}
use Rattle.std.specs.declared.cmp.Ordering.{Ordering}
use Rattle.std.proofs.lemmas.Cmp.{nat_eq_equiv}
use Rattle.std.proofs.lemmas.Bool.{leb-false, leb-true}
use Rattle.std.proofs.lemmas.List.{map-append, take_more, take_all, length-take-le}
use Rattle.std.proofs.lemmas.List.Folds.{list_any-append}
use Rattle.sorting.specs.Keyed.{by_key, value_of}
use Rattle.sorting.specs.Sorted.{sorted}
use Rattle.sorting.specs.declared.keyed.Keyed.{Keyed}
use Rattle.sorting.proofs.MappedSorts.{map-sorted}
use Rattle.rendering_context.specs.Cites.{by_suffix}
use Rattle.driver_requests.specs.CitedEntries.{once}
use Rattle.driver_requests.specs.Errors.{overflow}
use Rattle.driver_requests.specs.Suffixes.{Origin}
use Rattle.driver_requests.proofs.Once.{once_more}
use Rattle.driver_names.specs.Prints.{GivenState}
use Rattle.driver_names.specs.Views.{class_view, printed_view}
use Rattle.driver_names.specs.declared.printed.Printed.{Printed}
use Rattle.driver_disambiguation.specs.Gathered.{keyed}
use Rattle.driver_disambiguation.specs.States.{suffixes_overflow}
use Rattle.driver_disambiguation.specs.Rounds.{by_number, suffixes_for}
use Rattle.driver_disambiguation.specs.Views.{unless_beyond}

-- one number more, viewed twice
taken_more : {X Y : Type 0} (g : X → Y) (h : Y → ℕ) (xs : List X) (i : ℕ) (d : X) → i < length xs
    → map h (map g (take (i + 1) xs)) ≡ map h (map g (take i xs)) ++ h (g (get_or xs i d)) ∷ []
taken_more g h xs i d low =
    ap (λ ys. map h (map g ys)) (take_more xs i d low) ∙ ap (map h) (map-append g (take i xs) (get_or xs i d ∷ [])) ∙ map-append h (map g (take i xs)) (g (get_or xs i d) ∷ [])

-- a loop that appends each number once
pub once_step : {X Y : Type 0} (g : X → Y) (h : Y → ℕ) (xs : List X) (i : ℕ) (d : X) (old new : List ℕ) (was : Bool) → i < length xs
    → old ≡ once nat_eq (map h (map g (take i xs))) → was ≡ list_any (nat_eq (h (g (get_or xs i d)))) (map h (map g (take i xs)))
    → new ≡ old ++ cond was [] (h (g (get_or xs i d)) ∷ []) → new ≡ once nat_eq (map h (map g (take (i + 1) xs)))
once_step g h xs i d old new was low before is after =
    let y = h (g (get_or xs i d)) in
    after
    ∙ (λ k. before k ++ cond (is k) [] (y ∷ []))
    ∙ sym (once_more nat_eq_equiv (map h (map g (take i xs))) y)
    ∙ sym (ap (once nat_eq) (taken_more g h xs i d low))

among : (a b : Bool) → cond a true b ≡ (b || (a || false))
among true true = refl
among true false = refl
among false true = refl
among false false = refl

-- a set that has the numbers so far
pub view_step : {X Y : Type 0} (g : X → Y) (h : Y → ℕ) (xs : List X) (i : ℕ) (d : X) (e : ℕ) (old new : Bool) → i < length xs
    → old ≡ list_any (nat_eq e) (map h (map g (take i xs))) → new ≡ cond (nat_eq (h (g (get_or xs i d))) e) true old
    → new ≡ list_any (nat_eq e) (map h (map g (take (i + 1) xs)))
view_step g h xs i d e old new low before after =
    let y = h (g (get_or xs i d)) in
    let ys = map h (map g (take i xs)) in
    after
    ∙ (λ k. cond (nat_eq_equiv.symm y e k) true (before k))
    ∙ among (nat_eq e y) (list_any (nat_eq e) ys)
    ∙ sym (ap (list_any (nat_eq e)) (taken_more g h xs i d low) ∙ list_any-append (nat_eq e) ys (y ∷ []))

-- both, where the element is known by itself
pub once_step_at : {X Y : Type 0} (g : X → Y) (h : Y → ℕ) (xs : List X) (i : ℕ) (x : X) (old new : List ℕ) (was : Bool) → i < length xs
    → old ≡ once nat_eq (map h (map g (take i xs))) → x ≡ get_or xs i x → was ≡ list_any (nat_eq (h (g x))) (map h (map g (take i xs)))
    → new ≡ old ++ cond was [] (h (g x) ∷ []) → new ≡ once nat_eq (map h (map g (take (i + 1) xs)))
once_step_at g h xs i x old new was low before is_x is after =
    once_step g h xs i x old new was low before (is ∙ ap (λ y. list_any (nat_eq (h (g y))) (map h (map g (take i xs)))) is_x)
    (after ∙ ap (λ y. old ++ cond was [] (h (g y) ∷ [])) is_x)

pub view_step_at : {X Y : Type 0} (g : X → Y) (h : Y → ℕ) (xs : List X) (i : ℕ) (x : X) (e : ℕ) (old new : Bool) → i < length xs
    → old ≡ list_any (nat_eq e) (map h (map g (take i xs))) → x ≡ get_or xs i x → new ≡ cond (nat_eq (h (g x)) e) true old
    → new ≡ list_any (nat_eq e) (map h (map g (take (i + 1) xs)))
view_step_at g h xs i x e old new low before is_x after =
    view_step g h xs i x e old new low before (after ∙ ap (λ y. cond (nat_eq (h (g y)) e) true old) is_x)

values_back : (xs : List (Bor Printed)) → map value_of (map keyed xs) ≡ xs
values_back [] = refl
values_back (x ∷ xs) = ap (λ ys. x ∷ ys) (values_back xs)

-- how two cites compare by the numbers of their entries
abbrev by_own_number : Bor Printed → Bor Printed → Ordering
by_own_number s t = nat_cmp s.now.cite.number t.now.cite.number

-- cites that are sorted by keys are in the order of their numbers
pub sorted_back : (xs out : List (Bor Printed)) (ks : List (Keyed ℕ (Bor Printed))) → ks ≡ map keyed xs → out ≡ map value_of (sorted (by_key nat_cmp) ks)
    → class_view out ≡ sorted by_number (class_view xs)
sorted_back xs out ks are is =
    ap class_view
    (is
    ∙ ap (λ ys. map value_of (sorted (by_key nat_cmp) ys)) are
    ∙ ap (map value_of) (sym (map-sorted keyed by_own_number (by_key nat_cmp) (λ a b. refl) xs))
    ∙ values_back (sorted by_own_number xs))
    ∙ map-sorted (λ s. printed_view s.now) by_own_number by_number (λ a b. refl) xs

-- year suffixes for an entry by its index
abbrev pub suffix_to : Origin → ℕ × ℕ → GivenState
suffix_to o p = record { entry = p.1; state = by_suffix p.0; origin = o }

-- one element more, with its index
enumerate_last : {X : Type 0} (n : ℕ) (xs : List X) (x : X) → enumerate_from n (xs ++ x ∷ []) ≡ enumerate_from n xs ++ (n + length xs, x) ∷ []
enumerate_last n [] x =
    let e : n ≡ n + 0 = omega arith in
    λ k. (e k, x) ∷ []
enumerate_last n (y ∷ xs) x =
    let e : n + 1 + length xs ≡ n + suc (length xs) = omega arith in
    ap (λ es. (n, y) ∷ es) (enumerate_last (n + 1) xs x ∙ (λ k. enumerate_from (n + 1) xs ++ (e k, x) ∷ []))

-- a loop that gives year suffixes to each entry
pub suffixes_step : (o : Origin) (es : List ℕ) (i : ℕ) (d : ℕ) (old new : List GivenState) → i < length es → old ≡ suffixes_for o (take i es)
    → new ≡ old ++ suffix_to o (i, get_or es i d) ∷ [] → new ≡ suffixes_for o (take (i + 1) es)
suffixes_step o es i d old new low before after =
    let e = get_or es i d in
    let long : length (take i es) ≡ i = length-take-le i es (omega arith) in
    let index : 0 + length (take i es) ≡ i = omega (arith, long) in
    after
    ∙ (λ k. before k ++ suffix_to o (sym index k, e) ∷ [])
    ∙ sym (map-append (suffix_to o) (enumerate_from 0 (take i es)) ((0 + length (take i es), e) ∷ []))
    ∙ sym (ap (map (suffix_to o)) (ap (enumerate_from 0) (take_more es i d low) ∙ enumerate_last 0 (take i es) e))

one_within : (n : ℕ) (rest : Bool) → n < 256 → rest ≡ false → (b : Bool) → nat_le 256 n ≡ b → (nat_le 256 n || rest) ≡ false
one_within n rest low later true e = absurd (omega (arith, leb-true 256 n e))
one_within n rest low later false e = (λ k. e k || later k)

-- year suffixes of few entries are in range
within : (o : Origin) (n : ℕ) (es : List ℕ) → n + length es ≤ 256 → suffixes_overflow (map (suffix_to o) (enumerate_from n es)) ≡ false
within o n [] few = refl
within o n (e ∷ es) few = one_within n (suffixes_overflow (map (suffix_to o) (enumerate_from (n + 1) es))) (omega arith) (within o (n + 1) es (omega arith)) (nat_le 256 n) refl

pub suffixes_within : (o : Origin) (es : List ℕ) → length es ≤ 256 → suffixes_overflow (suffixes_for o es) ≡ false
suffixes_within o es few = within o 0 es (omega arith)

one_beyond : (n : ℕ) (rest : Bool) → (n < 256 → rest ≡ true) → (b : Bool) → nat_le 256 n ≡ b → (nat_le 256 n || rest) ≡ true
one_beyond n rest later true e = ap (λ c. c || rest) e
one_beyond n rest later false e = (λ k. e k || later (leb-false 256 n e) k)

-- year suffixes of too many entries are not in range
beyond : (o : Origin) (n : ℕ) (es : List ℕ) → n ≤ 256 → 256 < n + length es → suffixes_overflow (map (suffix_to o) (enumerate_from n es)) ≡ true
beyond o n [] low many = absurd (omega arith)
beyond o n (e ∷ es) low many =
    one_beyond n (suffixes_overflow (map (suffix_to o) (enumerate_from (n + 1) es))) (λ lt. beyond o (n + 1) es (omega arith) (omega arith)) (nat_le 256 n) refl

pub suffixes_beyond : (o : Origin) (es : List ℕ) → 256 < length es → suffixes_overflow (suffixes_for o es) ≡ true
suffixes_beyond o es many = beyond o 0 es (omega arith) (omega arith)

-- year suffixes for all of few entries
pub given_all : (o : Origin) (es : List ℕ) (i : ℕ) (gs : List GivenState) → length es ≤ 256 → length es ≤ i → gs ≡ suffixes_for o (take i es) → unless_beyond (suffixes_for o es) ≡ Ok gs
given_all o es i gs few past is =
    (λ k. cond (suffixes_within o es few k) (Err overflow) (Ok (suffixes_for o es))) ∙ ap Ok (sym (is ∙ ap (suffixes_for o) (take_all i es past)))

-- too many are refused
pub refused_all : (o : Origin) (es : List ℕ) → 256 < length es → unless_beyond (suffixes_for o es) ≡ Err overflow
refused_all o es many = λ k. cond (suffixes_beyond o es many k) (Err overflow) (Ok (suffixes_for o es))
