-- What an order gives to those who go along it.
use Rattle.std.proofs.Common.{◌≡◌, ℕ, zero, suc, ◌+◌, ◌<◌, ◌≤◌, List, All, [], ◌∷◌, ◌++◌, Bool, true, false, true≢false, cond, eqb, eqb-true, eq-or-lt_of_le, length, get_or, take, drop, Contains, count_by, ◌⊎◌, inl, inr, refl, sym, ap, subst, ◌∙◌, arith}
use Rattle.std.proofs.Math.Seq.{take-suc, drop-cons}
use Rattle.std.proofs.lemmas.List.{take-append-drop}
use Rattle.std.proofs.lemmas.List.Sums.{sum_by-cons, sum_by-append}
use Rattle.std.proofs.lemmas.Bool.Decides.{eqb_tells}
use Rattle.std.proofs.lemmas.List.Elements.{All-get_or, All-head, All-tail, Contains-push_cases}
use Rattle.reference_graph.specs.References.{references_of}
use Rattle.reference_graph.specs.Order.{IsOrder}
use Rattle.reference_graph.proofs.SearchLists.{take_has, in_take}
use Rattle.reference_graph.proofs.OrderUses.{all_after}
use Rattle.biblatex_inheritance.specs.Solution.{NoneIsCircular}

one_if : ℕ → ℕ → ℕ
one_if v y = cond {A = ℕ} (eqb y v) 1 0

eqb_same : (v : ℕ) → eqb v v ≡ true
eqb_same v = search arith

counted : (xs : List ℕ) (v : ℕ) → Contains xs v → 0 < count_by (λ y. eqb y v) xs
counted [] v (k, low, is) = absurd (omega arith)
counted (x ∷ xs) v (zero, low, is) =
    let p = sum_by-cons (λ (y : ℕ). cond {A = ℕ} (eqb y v) 1 0) x xs in
    let z : cond {A = ℕ} (eqb x v) 1 0 ≡ 1 = ap (λ (b : Bool). cond {A = ℕ} b 1 0) (ap (λ (y : ℕ). eqb y v) is ∙ eqb_same v) in
    omega arith
counted (x ∷ xs) v (suc k, low, is) =
    let p = sum_by-cons (λ (y : ℕ). cond {A = ℕ} (eqb y v) 1 0) x xs in
    let more = counted xs v (k, omega arith, is) in
    omega arith

-- a number does not stand before its own index
pub not_before : (R : List (List ℕ)) (order : List ℕ) (k : ℕ) → IsOrder R order → k < length order → Contains (take k order) (get_or order k 0) → ⊥
not_before R order k o low has =
    let n = get_or order k 0 in
    let parts : order ≡ take k order ++ (n ∷ drop (suc k) order) = sym (take-append-drop k order) ∙ ap (λ (xs : List ℕ). take k order ++ xs) (drop-cons order k 0 low) in
    let once = o.once n (All-get_or (λ i. i < length R) order k 0 low o.below) in
    let whole : count_by (λ y. eqb y n) order ≡ count_by (λ y. eqb y n) (take k order) + count_by (λ y. eqb y n) (n ∷ drop (suc k) order) = ap (count_by (λ y. eqb y n)) parts ∙ sum_by-append (λ (y : ℕ). cond {A = ℕ} (eqb y n) 1 0) (take k order) (n ∷ drop (suc k) order) in
    let first = counted (take k order) n has in
    let second = counted (n ∷ drop (suc k) order) n (0, omega arith, refl) in
    omega arith

pub below_order : (R : List (List ℕ)) (order : List ℕ) (k : ℕ) → IsOrder R order → k < length order → get_or order k 0 < length R
below_order R order k o low = All-get_or (λ i. i < length R) order k 0 low o.below

pub not_itself : (R : List (List ℕ)) (n : ℕ) → NoneIsCircular R → Contains (references_of R n) n → ⊥
not_itself R n none has = none n (0, (n, has, refl))

-- none of those before an index refers to the number at it
pub not_from_before : (R : List (List ℕ)) (order : List ℕ) (k i : ℕ) → IsOrder R order → NoneIsCircular R → k < length order → Contains (take k order) i → Contains (references_of R i) (get_or order k 0) → ⊥
not_from_before R order k i o none low before refers =
    let at = take_has k order i (omega arith) before in
    let following = all_after R order o none at.0 (get_or order k 0) (omega (arith, at.1)) (subst (λ (x : ℕ). Contains (references_of R x) (get_or order k 0)) (sym at.2) refers) (below_order R order k o low) in
    let there = take_has at.0 order (get_or order k 0) (omega (arith, at.1)) following in
    not_before R order k o low (in_take k order there.0 (get_or order k 0) (omega arith) (omega (arith, at.1, there.1)) there.2)

-- a number up to an index stands before it or at it
pub up_to : (order : List ℕ) (k i : ℕ) → k < length order → Contains (take (k + 1) order) i → Contains (take k order) i ⊎ (get_or order k 0 ≡ i)
up_to order k i low has =
    let e : k + 1 ≡ suc k = omega arith in
    Contains-push_cases (take k order) (get_or order k 0) i (subst (λ (xs : List ℕ). Contains xs i) (ap (λ (j : ℕ). take j order) e ∙ take-suc order k 0 low) has)

pub last_in : (order : List ℕ) (k : ℕ) → k < length order → Contains (take (k + 1) order) (get_or order k 0)
last_in order k low = in_take (k + 1) order k (get_or order k 0) (omega arith) (omega arith) refl

pub one_more : (order : List ℕ) (k i : ℕ) → k < length order → Contains (take k order) i → Contains (take (k + 1) order) i
one_more order k i low has = let at = take_has k order i (omega arith) has in in_take (k + 1) order at.0 i (omega arith) (omega (arith, at.1)) at.2

pub number_is : (i n : ℕ) → (i ≡ n) ⊎ (i ≡ n → ⊥)
number_is i n = by_test (eqb i n) refl
  where
    by_test : (b : Bool) → eqb i n ≡ b → (i ≡ n) ⊎ (i ≡ n → ⊥)
    by_test true e = inl (eqb-true i n e)
    by_test false e = inr (λ is. true≢false (sym (eqb_same n) ∙ (ap (λ (x : ℕ). eqb x n) (sym is) ∙ e)))

-- how often numbers below a bound stand in a list
abbrev counted_below : ℕ → List ℕ → ℕ
counted_below zero xs = 0
counted_below (suc n) xs = count_by (λ y. eqb y n) xs + counted_below n xs

none_counted : (n : ℕ) → counted_below n [] ≡ 0
none_counted zero = refl
none_counted (suc n) = let more = none_counted n in omega (arith, more)

not_counted : (n x : ℕ) (xs : List ℕ) → n ≤ x → counted_below n (x ∷ xs) ≡ counted_below n xs
not_counted zero x xs above = refl
not_counted (suc n) x xs above =
    let p = sum_by-cons (λ (y : ℕ). cond {A = ℕ} (eqb y n) 1 0) x xs in
    let more = not_counted n x xs (omega (arith, above)) in
    elim (eqb_tells x n) [
      | inl same ↦ absurd (omega (arith, same.1, above))
      | inr other ↦ let z : cond {A = ℕ} (eqb x n) 1 0 ≡ 0 = ap (λ (b : Bool). cond {A = ℕ} b 1 0) other.0 in omega (arith, p, z, more)
    ]

counted_once : (n x : ℕ) (xs : List ℕ) → x < n → counted_below n (x ∷ xs) ≡ 1 + counted_below n xs
counted_once zero x xs below = absurd (omega (arith, below))
counted_once (suc n) x xs below =
    let p = sum_by-cons (λ (y : ℕ). cond {A = ℕ} (eqb y n) 1 0) x xs in
    elim (eqb_tells x n) [
      | inl same ↦ let z : cond {A = ℕ} (eqb x n) 1 0 ≡ 1 = ap (λ (b : Bool). cond {A = ℕ} b 1 0) same.0 in let more = not_counted n x xs (omega (arith, same.1)) in omega (arith, p, z, more)
      | inr other ↦ let z : cond {A = ℕ} (eqb x n) 1 0 ≡ 0 = ap (λ (b : Bool). cond {A = ℕ} b 1 0) other.0 in let more = counted_once n x xs (nat_lt_of x n below other.1) in omega (arith, p, z, more)
    ]
  where
    nat_lt_of : (x n : ℕ) → x < suc n → (x ≡ n → ⊥) → x < n
    nat_lt_of x n low apart = elim (eq-or-lt_of_le (omega (arith, low))) [
      | inl at ↦ absurd (apart at)
      | inr less ↦ less
    ]

all_counted : (n : ℕ) (xs : List ℕ) → All (λ i. i < n) xs → counted_below n xs ≡ length xs
all_counted n [] all = none_counted n
all_counted n (x ∷ xs) all =
    let here = counted_once n x xs (All-head (λ i. i < n) x xs all) in
    let more = all_counted n xs (All-tail (λ i. i < n) x xs all) in
    omega (arith, here, more)

each_once : (n : ℕ) (xs : List ℕ) → ((i : ℕ) → i < n → count_by (λ y. eqb y i) xs ≡ 1) → counted_below n xs ≡ n
each_once zero xs once = refl
each_once (suc n) xs once =
    let here = once n (omega arith) in
    let more = each_once n xs (λ i low. once i (omega (arith, low))) in
    omega (arith, here, more)

-- an order has as many numbers as there are
pub order_long : (R : List (List ℕ)) (order : List ℕ) → IsOrder R order → length order ≡ length R
order_long R order o = sym (all_counted (length R) order o.below) ∙ each_once (length R) order o.once
