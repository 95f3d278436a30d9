-- The order of the entries of a document has each cited entry once, and their numbers count on from the offset.
use Rattle.std.proofs.Common.{◌≡◌, ℕ, ◌+◌, Bool, true, false, cond, not, nat_eq, List, [], ◌∷◌, ◌++◌, length, map, refl, subst, ◌∙◌, arith, eq-eqb, Option, Some, None}
use Rattle.std.specs.Prelude.{filter}
use Rattle.std.specs.Cmp.{IsEquivalence, nat_eq_equiv}
use Rattle.std.specs.List.{AllByRecursion, IsDistinct, flat_map, list_any, position_or_len, range_with_len}
use Rattle.std.proofs.lemmas.Map.Keys.{IsDistinct-head, IsDistinct-push, IsDistinct-tail}
use Rattle.rendering_style.specs.Styles.{Bibliography}
use Rattle.driver_requests.specs.CitedEntries.{once}
use Rattle.driver_requests.specs.Order.{cited, is_index_in, number_in, ordered}
use Rattle.driver_requests.specs.Indices.{grown, pushed}
use Rattle.driver_requests.specs.Requests.{Item, Request}
use Rattle.driver_requests.proofs.Once.{grown_all}
use Rattle.driver_rounds.specs.Documents.{Document, order_in}
use Rattle.driver.proofs.DocumentsOrder.{ordered_has}
use Rattle.driver_laws.specs.Laws.{NumbersAreConsecutive, OrderHasTheCited}

none_distinct : {K : Type 0} (eq : K → K → Bool) → IsDistinct eq []
unfolding IsDistinct
none_distinct eq = tt

pushed_distinct : {K : Type 0} {eq : K → K → Bool} (laws : IsEquivalence eq) (es : List K) (e : K) (b : Bool) → list_any (eq e) es ≡ b → IsDistinct eq es → IsDistinct eq (cond b es (es ++ e ∷ []))
pushed_distinct laws es e true h d = d
pushed_distinct laws es e false h d = IsDistinct-push laws es e d h

grown_distinct : {K : Type 0} {eq : K → K → Bool} (laws : IsEquivalence eq) (es ys : List K) → IsDistinct eq es → IsDistinct eq (grown eq es ys)
grown_distinct laws es [] d = d
grown_distinct {eq = eq} laws es (y ∷ ys) d = grown_distinct laws (pushed eq es y) ys (pushed_distinct laws es y (list_any (eq y) es) refl d)

once_distinct : (xs : List ℕ) → IsDistinct nat_eq (once nat_eq xs)
once_distinct xs = subst (λ (ys : List ℕ). IsDistinct nat_eq ys) (grown_all nat_eq_equiv xs) (grown_distinct nat_eq_equiv [] xs (none_distinct nat_eq))

ordered_distinct : (b : Option Bibliography) (wanted xs : List ℕ) → IsDistinct nat_eq (ordered b wanted (once nat_eq xs))
ordered_distinct None wanted xs = once_distinct xs
ordered_distinct (Some b) wanted xs = once_distinct (filter (is_index_in (once nat_eq xs)) wanted ++ once nat_eq xs)

in_order_distinct : {P : Type 0} (d : Document P) → IsDistinct nat_eq (order_in d)
in_order_distinct {P} d = ordered_distinct d.bibliography_context.style.bibliography d.wanted (flat_map (λ (r : Request P). map (λ (i : Item P). i.entry.index) r.items) d.requests)

-- the order has each cited entry once, and no other
pub order_has_the_cited : (P : Type 0) → OrderHasTheCited P
order_has_the_cited P = λ d. (in_order_distinct d, λ e. ordered_has d.bibliography_context.style.bibliography d.wanted (cited d.requests) e)

at_once : (offset n : ℕ) (t : Bool) → t ≡ true → offset + cond (not t) (1 + n) 0 ≡ offset
at_once offset n true h = omega arith
at_once offset n false h = absurd cc

later : (offset n : ℕ) (t : Bool) → t ≡ false → offset + cond (not t) (1 + n) 0 ≡ offset + 1 + n
later offset n true h = absurd cc
later offset n false h = omega arith

others_along : (offset x : ℕ) (xs ys : List ℕ) → AllByRecursion (λ y. nat_eq x y ≡ false) ys → map (number_in offset (x ∷ xs)) ys ≡ map (number_in (offset + 1) xs) ys
others_along offset x xs [] h = refl
others_along offset x xs (y ∷ ys) h = λ k. later offset (position_or_len (nat_eq y) xs) (nat_eq y x) (nat_eq_equiv.symm y x ∙ h.0) k ∷ others_along offset x xs ys h.1 k

numbers_along : (offset : ℕ) (xs : List ℕ) → IsDistinct nat_eq xs → map (number_in offset xs) xs ≡ range_with_len offset (length xs)
numbers_along offset [] d = refl
numbers_along offset (x ∷ xs) d =
    let others = others_along offset x xs xs (IsDistinct-head nat_eq x xs d) ∙ numbers_along (offset + 1) xs (IsDistinct-tail nat_eq x xs d) in
    λ k. at_once offset (position_or_len (nat_eq x) xs) (nat_eq x x) (eq-eqb x x refl) k ∷ others k

-- the numbers of the cited entries, taken in the order of these, count on from the offset
pub numbers_are_consecutive : (P : Type 0) → NumbersAreConsecutive P
numbers_are_consecutive P = λ d. numbers_along d.offset (order_in d) (in_order_distinct d)
