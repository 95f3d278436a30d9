-- What holds of each member of a list holds of each when the list is sorted; and comparisons that agree at its members sort it alike.
use Rattle.std.proofs.Common.{◌≡◌, Bool, true, false, cond, All, List, [], ◌∷◌, refl, ap, ◌∙◌}
use Rattle.std.specs.Ordering.{is_lt}
use Rattle.std.proofs.lemmas.List.Elements.{All-nil, All-cons, All-head, All-tail}
use Rattle.std.specs.declared.cmp.Ordering.{Ordering}
use Rattle.sorting.specs.Sorted.{put_in, sorted_by, is_less, sorted}

module _ {X : Type 0} (P : X → Type 0) where
  put_all : (lt : X → X → Bool) (x : X) (ys : List X) → P x → All P ys → All P (put_in lt x ys)
  put_all lt x [] p h = All-cons P x [] p h
  put_all lt x (y ∷ ys) p h = by (put_all lt x ys p (All-tail P y ys h)) (lt y x)
    where
      by : All P (put_in lt x ys) → (b : Bool) → All P (cond b (y ∷ put_in lt x ys) (x ∷ y ∷ ys))
      by rest true = All-cons P y (put_in lt x ys) (All-head P y ys h) rest
      by rest false = All-cons P x (y ∷ ys) p h

  sorted_by_all : (lt : X → X → Bool) (xs : List X) → All P xs → All P (sorted_by lt xs)
  sorted_by_all lt [] h = All-nil P
  sorted_by_all lt (x ∷ xs) h = put_all lt x (sorted_by lt xs) (All-head P x xs h) (sorted_by_all lt xs (All-tail P x xs h))

  pub sorted_all : (cmp : X → X → Ordering) (xs : List X) → All P xs → All P (sorted cmp xs)
  sorted_all cmp xs h = sorted_by_all (is_less cmp) xs h

  module _ (lt other : X → X → Bool) (agree : (a b : X) → P a → P b → lt a b ≡ other a b) where
    put_agrees : (x : X) (ys : List X) → P x → All P ys → put_in lt x ys ≡ put_in other x ys
    put_agrees x [] p h = refl
    put_agrees x (y ∷ ys) p h =
        let rest = put_agrees x ys p (All-tail P y ys h) in
        λ i. cond (agree y x (All-head P y ys h) p i) (y ∷ rest i) (x ∷ y ∷ ys)

    sorted_by_agrees : (xs : List X) → All P xs → sorted_by lt xs ≡ sorted_by other xs
    sorted_by_agrees [] h = refl
    sorted_by_agrees (x ∷ xs) h =
        let tail = All-tail P x xs h in
        ap (put_in lt x) (sorted_by_agrees xs tail) ∙ put_agrees x (sorted_by other xs) (All-head P x xs h) (sorted_by_all other xs tail)

  pub sorted_agrees : (cmp other : X → X → Ordering) → ((a b : X) → P a → P b → cmp a b ≡ other a b) → (xs : List X) → All P xs → sorted cmp xs ≡ sorted other xs
  sorted_agrees cmp other agree xs h = sorted_by_agrees (is_less cmp) (is_less other) (λ a b p q. ap is_lt (agree a b p q)) xs h
