-- An order for all references: the numbers sorted by how deep they are.
use Rattle.std.proofs.Common.{◌≡◌, ℕ, zero, suc, ◌+◌, ◌<◌, ◌≤◌, Bool, true, false, cond, leb, eqb, List, [], ◌∷◌, length, get_or, take, Contains, count_by, inl, inr, refl, ap, subst, arith}
use Rattle.std.specs.List.{AllByRecursion}
use Rattle.std.proofs.lemmas.Bool.{cases_lt, leb-true, leb-false, eq-eqb, ne_eqb}
use Rattle.std.proofs.lemmas.List.Sums.{sum_by-cons}
use Rattle.std.proofs.lemmas.List.Elements.{All-from_recursion}
use Rattle.reference_graph.specs.References.{references_of, IsCircular}
use Rattle.reference_graph.specs.Order.{IsOrder}
use Rattle.biblatex_meaning.proofs.Decided.{Decided}
use Rattle.biblatex_meaning.proofs.Walks.{circular}
use Rattle.biblatex_meaning.proofs.Depth.{depth, as_deep, less_deep}

-- numbers that reach themselves come before others that are as deep
abbrev pub odd : {P : Type 0} → Decided P → ℕ
odd (inl p) = 0
odd (inr no_p) = 1

abbrev pub rank : List (List ℕ) → ℕ → ℕ
rank R i = (depth R i + depth R i) + odd (circular R i)

rank_less : (R : List (List ℕ)) (i r : ℕ) → (IsCircular R i → ⊥) → Contains (references_of R i) r → r < length R → rank R r < rank R i
rank_less R i r none has low = by (circular R r) (circular R i)
  where
    by : (d : Decided (IsCircular R r)) (e : Decided (IsCircular R i)) → (depth R r + depth R r) + odd d < (depth R i + depth R i) + odd e
    by d (inl c) = absurd (none c)
    by (inl c) (inr n) = let less = as_deep R i r has low in omega (arith, less)
    by (inr no_r) (inr n) = let less = less_deep R i r no_r has low in omega (arith, less)

-- a number goes before the first that has no smaller rank
abbrev pub into : (ℕ → ℕ) → ℕ → List ℕ → List ℕ
into f x [] = x ∷ []
into f x (y ∷ ys) = cond (leb (f x) (f y)) (x ∷ y ∷ ys) (y ∷ into f x ys)

abbrev one : (ℕ → Bool) → ℕ → ℕ
one p x = cond {A = ℕ} (p x) 1 0

into_counted : (f : ℕ → ℕ) (p : ℕ → Bool) (x : ℕ) (xs : List ℕ) → count_by p (into f x xs) ≡ one p x + count_by p xs
into_counted f p x [] = sum_by-cons (one p) x []
into_counted f p x (y ∷ ys) = by (leb (f x) (f y)) (into_counted f p x ys)
  where
    by : (b : Bool) → count_by p (into f x ys) ≡ one p x + count_by p ys → count_by p (cond b (x ∷ y ∷ ys) (y ∷ into f x ys)) ≡ one p x + count_by p (y ∷ ys)
    by true more = sum_by-cons (one p) x (y ∷ ys)
    by false more =
        let here = sum_by-cons (one p) y (into f x ys) in
        let there = sum_by-cons (one p) y ys in
        omega (arith, here, there, more)

into_all : (f : ℕ → ℕ) (P : ℕ → Type 0) (x : ℕ) (xs : List ℕ) → P x → AllByRecursion P xs → AllByRecursion P (into f x xs)
into_all f P x [] here all = (here, tt)
into_all f P x (y ∷ ys) here all = by (leb (f x) (f y)) (into_all f P x ys here all.1)
  where
    by : (b : Bool) → AllByRecursion P (into f x ys) → AllByRecursion P (cond b (x ∷ y ∷ ys) (y ∷ into f x ys))
    by true more = (here, all)
    by false more = (all.0, more)

-- each number has at most the rank of those after it
abbrev IsUpwards : (ℕ → ℕ) → List ℕ → Type 0
IsUpwards f [] = Unit {0}
IsUpwards f (x ∷ xs) = AllByRecursion (λ y. f x ≤ f y) xs × IsUpwards f xs

all_above : (f : ℕ → ℕ) (x y : ℕ) (ys : List ℕ) → f x ≤ f y → AllByRecursion (λ z. f y ≤ f z) ys → AllByRecursion (λ z. f x ≤ f z) ys
all_above f x y [] less all = tt
all_above f x y (z ∷ ys) less all = (omega (arith, less, all.0), all_above f x y ys less all.1)

into_upwards : (f : ℕ → ℕ) (x : ℕ) (xs : List ℕ) → IsUpwards f xs → IsUpwards f (into f x xs)
into_upwards f x [] up = (tt, tt)
into_upwards f x (y ∷ ys) up = by (leb (f x) (f y)) refl (into_upwards f x ys up.1)
  where
    by : (b : Bool) → leb (f x) (f y) ≡ b → IsUpwards f (into f x ys) → IsUpwards f (cond b (x ∷ y ∷ ys) (y ∷ into f x ys))
    by true e more = let less = leb-true (f x) (f y) e in ((less, all_above f x y ys less up.0), up)
    by false e more = let above = leb-false (f x) (f y) e in (into_all f (λ z. f y ≤ f z) x ys (omega (arith, above)) up.0, more)

above_at : (f : ℕ → ℕ) (x : ℕ) (xs : List ℕ) (r : ℕ) → AllByRecursion (λ y. f x ≤ f y) xs → Contains xs r → f x ≤ f r
above_at f x [] r all (k, low, is) = absurd (omega (arith, low))
above_at f x (y ∷ ys) r all (zero, low, is) = subst (λ (z : ℕ). f x ≤ f z) is all.0
above_at f x (y ∷ ys) r all (suc k, low, is) = above_at f x ys r all.1 (k, omega (arith, low), is)

-- what has a smaller rank stands before
stands_before : (f : ℕ → ℕ) (xs : List ℕ) (k r : ℕ) → IsUpwards f xs → k < length xs → Contains xs r → f r < f (get_or xs k 0) → Contains (take k xs) r
stands_before f [] k r up low has less = absurd (omega (arith, low))
stands_before f (x ∷ xs) zero r up low (zero, at, is) less = absurd (let same : f x ≡ f r = ap f is in omega (arith, less, same))
stands_before f (x ∷ xs) zero r up low (suc j, at, is) less = absurd (let above = above_at f x xs r up.0 (j, omega (arith, at), is) in omega (arith, less, above))
stands_before f (x ∷ xs) (suc k) r up low (zero, at, is) less = (0, omega arith, is)
stands_before f (x ∷ xs) (suc k) r up low (suc j, at, is) less =
    let there = stands_before f xs k r up.1 (omega (arith, low)) (j, omega (arith, at), is) less in
    (suc there.0, omega (arith, there.1), there.2)

abbrev pub order_upto : List (List ℕ) → ℕ → List ℕ
order_upto R zero = []
order_upto R (suc n) = into (rank R) n (order_upto R n)

abbrev pub order_of : List (List ℕ) → List ℕ
order_of R = order_upto R (length R)

abbrev is_it : ℕ → ℕ → Bool
is_it i k = eqb k i

not_yet : (R : List (List ℕ)) (n i : ℕ) → n ≤ i → count_by (is_it i) (order_upto R n) ≡ 0
not_yet R zero i past = refl
not_yet R (suc n) i past =
    let step = into_counted (rank R) (is_it i) n (order_upto R n) in
    let other : one (is_it i) n ≡ 0 = ap (λ (b : Bool). cond {A = ℕ} b 1 0) (ne_eqb n i (λ e. omega (arith, past, e))) in
    let more = not_yet R n i (omega (arith, past)) in
    omega (arith, step, other, more)

once : (R : List (List ℕ)) (n i : ℕ) → i < n → count_by (is_it i) (order_upto R n) ≡ 1
once R zero i low = absurd (omega (arith, low))
once R (suc n) i low = elim (cases_lt i n) [
  | inl less ↦
      let step = into_counted (rank R) (is_it i) n (order_upto R n) in
      let other : one (is_it i) n ≡ 0 = ap (λ (b : Bool). cond {A = ℕ} b 1 0) (ne_eqb n i (λ e. omega (arith, less, e))) in
      let more = once R n i less in
      omega (arith, step, other, more)
  | inr past ↦
      let step = into_counted (rank R) (is_it i) n (order_upto R n) in
      let itself : one (is_it i) n ≡ 1 = ap (λ (b : Bool). cond {A = ℕ} b 1 0) (eq-eqb n i (omega (arith, low, past))) in
      let none = not_yet R n i past in
      omega (arith, step, itself, none)
]

all_below : (R : List (List ℕ)) (n m : ℕ) → n ≤ m → AllByRecursion (λ i. i < m) (order_upto R n)
all_below R zero m low = tt
all_below R (suc n) m low = into_all (rank R) (λ i. i < m) n (order_upto R n) (omega (arith, low)) (all_below R n m (omega (arith, low)))

upwards : (R : List (List ℕ)) (n : ℕ) → IsUpwards (rank R) (order_upto R n)
upwards R zero = tt
upwards R (suc n) = into_upwards (rank R) n (order_upto R n) (upwards R n)

into_first : (f : ℕ → ℕ) (x : ℕ) (xs : List ℕ) → Contains (into f x xs) x
into_first f x [] = (0, omega arith, refl)
into_first f x (y ∷ ys) = by (leb (f x) (f y)) (into_first f x ys)
  where
    by : (b : Bool) → Contains (into f x ys) x → Contains (cond b (x ∷ y ∷ ys) (y ∷ into f x ys)) x
    by true more = (0, omega arith, refl)
    by false more = (suc more.0, omega (arith, more.1), more.2)

into_has : (f : ℕ → ℕ) (x r : ℕ) (xs : List ℕ) → Contains xs r → Contains (into f x xs) r
into_has f x r [] (k, low, is) = absurd (omega (arith, low))
into_has f x r (y ∷ ys) (zero, low, is) = by (leb (f x) (f y))
  where
    by : (b : Bool) → Contains (cond b (x ∷ y ∷ ys) (y ∷ into f x ys)) r
    by true = (1, omega arith, is)
    by false = (0, omega arith, is)
into_has f x r (y ∷ ys) (suc k, low, is) = by (leb (f x) (f y)) (into_has f x r ys (k, omega (arith, low), is))
  where
    by : (b : Bool) → Contains (into f x ys) r → Contains (cond b (x ∷ y ∷ ys) (y ∷ into f x ys)) r
    by true more = (suc (suc k), omega (arith, low), is)
    by false more = (suc more.0, omega (arith, more.1), more.2)

all_stand : (R : List (List ℕ)) (n i : ℕ) → i < n → Contains (order_upto R n) i
all_stand R zero i low = absurd (omega (arith, low))
all_stand R (suc n) i low = elim (cases_lt i n) [
  | inl less ↦ into_has (rank R) n i (order_upto R n) (all_stand R n i less)
  | inr past ↦ let same : n ≡ i = omega (arith, low, past) in subst (λ (x : ℕ). Contains (into (rank R) n (order_upto R n)) x) same (into_first (rank R) n (order_upto R n))
]

pub order_there : (R : List (List ℕ)) → IsOrder R (order_of R)
order_there R = record {
  once = λ i low. once R (length R) i low;
  below = All-from_recursion (λ i. i < length R) (order_of R) (all_below R (length R) (length R) (omega arith));
  following = λ k low none r has r_low. stands_before (rank R) (order_of R) k r (upwards R (length R)) low (all_stand R (length R) r r_low) (rank_less R (get_or (order_of R) k 0) r none has r_low);
}
