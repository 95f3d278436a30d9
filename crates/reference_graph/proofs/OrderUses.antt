-- What a caller makes of the marks and of the order.
use Rattle.std.proofs.Common.{◌≡◌, ℕ, ◌<◌, List, [], ◌∷◌, Bool, true, false, Contains, cond, eqb, count_by, length, get_or, take, refl, ap, arith, eqb-true}
use Rattle.std.proofs.lemmas.List.Sums.{sum_by-cons}
use Rattle.std.proofs.lemmas.List.Elements.{Contains-append_right}
use Rattle.reference_graph.specs.References.{references_of, IsCircular}
use Rattle.reference_graph.specs.Order.{is_marked, MarksCircular, IsOrder}
use Rattle.reference_graph.proofs.SearchLists.{contained_at}

-- where none is marked, none is circular
pub none_circular : (R : List (List ℕ)) (marks : List Bool) → MarksCircular R marks → ((i : ℕ) → is_marked marks i ≡ false) → (i : ℕ) → IsCircular R i → ⊥
none_circular R marks told none i c =
    let a = (told i).1 c in
    let b = none i in
    cc

-- where none is circular, each stands after all that it refers to
pub all_after : (R : List (List ℕ)) (order : List ℕ) → IsOrder R order → ((i : ℕ) → IsCircular R i → ⊥) → (k r : ℕ) → k < length order → Contains (references_of R (get_or order k 0)) r → r < length R → Contains (take k order) r
all_after R order o none k r h c lt = o.following k h (none (get_or order k 0)) r c lt

first_or_later : (x : ℕ) (xs : List ℕ) (v : ℕ) (same : Bool) → eqb x v ≡ same → (0 < count_by (λ y. eqb y v) xs → Contains xs v) → 0 < count_by (λ y. eqb y v) (x ∷ xs) → Contains (x ∷ xs) v
first_or_later x xs v true e later h = contained_at (x ∷ xs) 0 v (omega arith) (eqb-true x v e)
first_or_later x xs v false e later h =
    let p = sum_by-cons (λ (y : ℕ). cond {A = ℕ} (eqb y v) 1 0) x xs in
    let z : cond {A = ℕ} (eqb x v) 1 0 ≡ 0 = ap (λ (b : Bool). cond {A = ℕ} b 1 0) e in
    Contains-append_right (x ∷ []) xs v (later (omega arith))

counted_in : (xs : List ℕ) (v : ℕ) → 0 < count_by (λ x. eqb x v) xs → Contains xs v
counted_in [] v h = absurd (omega arith)
counted_in (x ∷ xs) v h = first_or_later x xs v (eqb x v) refl (counted_in xs v) h

-- each number that there is stands in the order
pub contained_in_order : (R : List (List ℕ)) (order : List ℕ) → IsOrder R order → (i : ℕ) → i < length R → Contains order i
contained_in_order R order o i h = let e = o.once i h in counted_in order i (omega arith)
