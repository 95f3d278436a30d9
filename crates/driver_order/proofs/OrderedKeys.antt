-- What is sorted by keys, by what the keys are.
use Rattle.std.proofs.Common.{◌≡◌, ◌<◌, List, [], ◌∷◌, length, map, refl, sym, ap, ◌∙◌, arith}
use Rattle.std.proofs.Math.Path.{fun_ext}
use Rattle.std.proofs.lemmas.Simd.{map-map}
use Rattle.std.specs.declared.cmp.Ordering.{Ordering}
use Rattle.sorting.specs.Sorted.{sorted}
use Rattle.rendering_sorting.specs.Keys.{Part, key_cmp}
use Rattle.driver_order.specs.Ordered.{ordered_by}
use Rattle.sorting.proofs.MappedSorts.{map-sorted, sorted-stays}

-- values with keys are in the order of what they stand for
pub sorted_as : {V X T : Type 0} (view : V → List Part × T) (cmp : V → V → Ordering) → ((a b : V) → cmp a b ≡ key_cmp (view a).0 (view b).0)
    → (keys : X → List Part) (out : X → T) (vs : List V) (es : List X) → map view vs ≡ map (λ e. (keys e, out e)) es
    → map (λ v. (view v).1) (sorted cmp vs) ≡ map out (ordered_by keys es)
sorted_as {V} {X} {T} view cmp alike keys out vs es same =
    let by : List Part × T → List Part × T → Ordering = λ p q. key_cmp p.0 q.0 in
    let paired : X → List Part × T = λ e. (keys e, out e) in
    sym (map-map (λ (p : List Part × T). p.1) view (sorted cmp vs))
    ∙ (ap (map (λ (p : List Part × T). p.1)) (map-sorted view cmp by alike vs ∙ (ap (sorted by) same ∙ sym (map-sorted paired (λ x y. key_cmp (keys x) (keys y)) by (λ x y. refl) es)))
    ∙ map-map (λ (p : List Part × T). p.1) paired (ordered_by keys es))

-- so are the values without the keys
pub values_as : {V X T W : Type 0} (view : V → List Part × T) (cmp : V → V → Ordering) → ((a b : V) → cmp a b ≡ key_cmp (view a).0 (view b).0)
    → (keys : X → List Part) (out : X → T) (vs : List V) (es : List X) → map view vs ≡ map (λ e. (keys e, out e)) es
    → (value : V → W) (seen : W → T) → ((v : V) → seen (value v) ≡ (view v).1)
    → (ws : List W) → ws ≡ map value (sorted cmp vs) → map seen ws ≡ map out (ordered_by keys es)
values_as view cmp alike keys out vs es same value seen at ws is =
    ap (map seen) is ∙ (map-map seen value (sorted cmp vs) ∙ (ap (λ f. map f (sorted cmp vs)) (fun_ext at) ∙ sorted_as view cmp alike keys out vs es same))

as_they_are : {X : Type 0} (xs : List X) → map (λ x. x) xs ≡ xs
as_they_are [] = refl
as_they_are (x ∷ xs) = ap (λ ys. x ∷ ys) (as_they_are xs)

-- values that stand for the members of a list are in their order
pub values_in_order : {V X W : Type 0} (view : V → List Part × X) (cmp : V → V → Ordering) → ((a b : V) → cmp a b ≡ key_cmp (view a).0 (view b).0)
    → (keys : X → List Part) (vs : List V) (es : List X) → map view vs ≡ map (λ e. (keys e, e)) es
    → (value : V → W) (seen : W → X) → ((v : V) → seen (value v) ≡ (view v).1)
    → (ws : List W) → ws ≡ map value (sorted cmp vs) → map seen ws ≡ ordered_by keys es
values_in_order view cmp alike keys vs es same value seen at ws is =
    values_as view cmp alike keys (λ x. x) vs es same value seen at ws is ∙ as_they_are (ordered_by keys es)

-- what is made of the members of a list in the order of their keys, where that has the same keys
pub ordered-map : {X Y : Type 0} (f : X → Y) (keys : X → List Part) (others : Y → List Part) → ((x : X) → keys x ≡ others (f x)) → (xs : List X) → map f (ordered_by keys xs) ≡ ordered_by others (map f xs)
ordered-map f keys others alike xs =
    map-sorted f (λ x y. key_cmp (keys x) (keys y)) (λ x y. key_cmp (others x) (others y)) (λ x y i. key_cmp (alike x i) (alike y i)) xs

-- where there are no keys, all stays as it is
pub unordered : {X : Type 0} (keys : X → List Part) → ((x : X) → keys x ≡ []) → (xs : List X) → ordered_by keys xs ≡ xs
unordered keys none xs =
    ap (λ k. ordered_by k xs) (fun_ext none) ∙ sorted-stays (λ x y. key_cmp [] []) (λ a b. refl) xs

-- fewer than two stay as they are
pub few_stay : {X : Type 0} (keys : X → List Part) (xs : List X) → length xs < 2 → ordered_by keys xs ≡ xs
few_stay keys [] few = refl
few_stay keys (x ∷ []) few = refl
few_stay keys (x ∷ y ∷ xs) few = absurd (omega (arith, few))
