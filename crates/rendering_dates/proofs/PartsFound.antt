-- A loop that looks for the first of some things, as each is viewed.
use Rattle.std.proofs.Common.{◌≡◌, ℕ, ◌+◌, ◌<◌, ◌≤◌, Bool, true, false, cond, ◌&&◌, List, [], ◌∷◌, length, drop, get_or, filter, Option, Some, None, refl, sym, ap, ◌∙◌}
use Rattle.std.proofs.lemmas.List.{at_drop_more, at_drop_all}
use Rattle.std.specs.List.{find}

-- the first that holds one test among those that hold another
pub find-filter : {A : Type 0} (within test : A → Bool) (xs : List A) → find test (filter within xs) ≡ find (λ x. within x && test x) xs
find-filter within test [] = refl
find-filter {A} within test (x ∷ xs) = by_test (within x) (find-filter within test xs)
  where
    by_test : (is : Bool) → find test (filter within xs) ≡ find (λ (y : A). within y && test y) xs
        → find test (cond is (x ∷ filter within xs) (filter within xs)) ≡ cond (is && test x) (Some x) (find (λ (y : A). within y && test y) xs)
    by_test true rest = ap (cond (test x) (Some x)) rest
    by_test false rest = rest

module _ {X Y : Type 0} (test : Y → Bool) (view : X → Y) (views : List X → List Y) (goes_on : (x : X) (xs : List X) → views (x ∷ xs) ≡ view x ∷ views xs) where
  -- what is looked at and what is left, as what is left from there on
  next_is : (xs : List X) (i : ℕ) (x : X) (y : Y) → i < length xs → x ≡ get_or xs i x → y ≡ view x → find test (y ∷ views (drop (i + 1) xs)) ≡ find test (views (drop i xs))
  next_is xs i x y less is viewed =
      ap (λ (z : Y). find test (z ∷ views (drop (i + 1) xs))) viewed
      ∙ (ap (find test) (sym (goes_on x (drop (i + 1) xs)))
      ∙ (ap (λ (z : X). find test (views (z ∷ drop (i + 1) xs))) is
      ∙ sym (at_drop_more (λ (zs : List X). find test (views zs)) xs i x less)))

  -- what is looked at holds the test
  pub found_at : (xs : List X) (i : ℕ) (x : X) (y : Y) (all : Option Y) → i < length xs → x ≡ get_or xs i x → y ≡ view x → test y ≡ true → find test (views (drop i xs)) ≡ all → Some y ≡ all
  found_at xs i x y all less is viewed holds so_far =
      ap (λ (b : Bool). cond b (Some y) (find test (views (drop (i + 1) xs)))) (sym holds) ∙ (next_is xs i x y less is viewed ∙ so_far)

  -- it does not
  pub passed_at : (xs : List X) (i : ℕ) (x : X) (y : Y) (all : Option Y) → i < length xs → x ≡ get_or xs i x → y ≡ view x → test y ≡ false → find test (views (drop i xs)) ≡ all
      → find test (views (drop (i + 1) xs)) ≡ all
  passed_at xs i x y all less is viewed fails so_far =
      ap (λ (b : Bool). cond b (Some y) (find test (views (drop (i + 1) xs)))) (sym fails) ∙ (next_is xs i x y less is viewed ∙ so_far)

  -- nothing is left
  pub none_left : (xs : List X) (i : ℕ) (all : Option Y) → length xs ≤ i → views [] ≡ [] → find test (views (drop i xs)) ≡ all → None ≡ all
  none_left xs i all past none so_far =
      ap (find test) (sym none) ∙ (sym (at_drop_all (λ (zs : List X). find test (views zs)) xs i past) ∙ so_far)
