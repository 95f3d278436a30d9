-- Sorted lists under a map, and lists that sorting leaves as they are.
use Rattle.std.proofs.Common.{◌≡◌, Bool, true, false, cond, List, [], ◌∷◌, map, refl, ap, ◌∙◌}
use Rattle.std.specs.Ordering.{is_lt}
use Rattle.std.specs.declared.cmp.Ordering.{Ordering}
use Rattle.sorting.specs.Sorted.{put_in, sorted_by, is_less, sorted}

module _ {X Y : Type 0} (f : X → Y) (lt : X → X → Bool) (below : Y → Y → Bool) (alike : (a b : X) → lt a b ≡ below (f a) (f b)) where
  put_cond : (x y : X) (ys more : List X) (b : Bool) → map f (cond b (y ∷ more) (x ∷ y ∷ ys)) ≡ cond b (f y ∷ map f more) (f x ∷ f y ∷ map f ys)
  put_cond x y ys more true = refl
  put_cond x y ys more false = refl

  put_map : (x : X) (ys : List X) → map f (put_in lt x ys) ≡ put_in below (f x) (map f ys)
  put_map x [] = refl
  put_map x (y ∷ ys) =
      put_cond x y ys (put_in lt x ys) (lt y x)
      ∙ (λ i. cond (alike y x i) (f y ∷ put_map x ys i) (f x ∷ f y ∷ map f ys))

  sorted_by_map : (xs : List X) → map f (sorted_by lt xs) ≡ sorted_by below (map f xs)
  sorted_by_map [] = refl
  sorted_by_map (x ∷ xs) = put_map x (sorted_by lt xs) ∙ ap (put_in below (f x)) (sorted_by_map xs)

-- what is made of the elements of a sorted list, where these compare as that does
pub map-sorted : {X Y : Type 0} (f : X → Y) (cmp : X → X → Ordering) (by : Y → Y → Ordering) → ((a b : X) → cmp a b ≡ by (f a) (f b)) → (xs : List X) → map f (sorted cmp xs) ≡ sorted by (map f xs)
map-sorted f cmp by alike xs = sorted_by_map f (is_less cmp) (is_less by) (λ a b. ap is_lt (alike a b)) xs

module _ {X : Type 0} (lt : X → X → Bool) (never : (a b : X) → lt a b ≡ false) where
  put_first : (x : X) (ys : List X) → put_in lt x ys ≡ x ∷ ys
  put_first x [] = refl
  put_first x (y ∷ ys) = ap (λ b. cond b (y ∷ put_in lt x ys) (x ∷ y ∷ ys)) (never y x)

  sorted_by_stays : (xs : List X) → sorted_by lt xs ≡ xs
  sorted_by_stays [] = refl
  sorted_by_stays (x ∷ xs) = ap (put_in lt x) (sorted_by_stays xs) ∙ put_first x xs

-- a list in which nothing is less than another element stays as it is
pub sorted-stays : {X : Type 0} (cmp : X → X → Ordering) → ((a b : X) → is_lt (cmp a b) ≡ false) → (xs : List X) → sorted cmp xs ≡ xs
sorted-stays cmp never xs = sorted_by_stays (is_less cmp) never xs
