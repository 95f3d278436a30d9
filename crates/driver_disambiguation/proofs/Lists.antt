-- Lists under views, and parts of them.
use Rattle.std.proofs.Common.{◌≡◌, ℕ, ◌+◌, ◌<◌, Bool, true, false, cond, ◌||◌, List, [], ◌∷◌, ◌++◌, All, map, length, take, get_or, refl, sym, ap, ◌∙◌}
use Rattle.std.specs.Prelude.{◌==◌, filter, count_by}
use Rattle.std.specs.List.{flat_map, list_any, enumerate_from}
use Rattle.std.proofs.lemmas.List.{append-nil, map-append, take_more, take-map, length-map}
use Rattle.std.proofs.lemmas.List.Concat.{flat_map-append}
use Rattle.std.proofs.lemmas.List.Elements.{All-head, All-tail, All-take, filter-append}
use Rattle.std.proofs.lemmas.List.Sums.{length-filter}
use Rattle.driver_disambiguation.specs.Classes.{part_at, parts}

-- one of two lists, viewed
pub map-cond : {X Y : Type 0} (f : X → Y) (b : Bool) (xs ys : List X) → map f (cond b xs ys) ≡ cond b (map f xs) (map f ys)
map-cond f true xs ys = refl
map-cond f false xs ys = refl

-- those that pass a test, viewed, are the view that passes it
pub map-filter : {X Y : Type 0} (f : X → Y) (p : X → Bool) (q : Y → Bool) → ((x : X) → p x ≡ q (f x)) → (xs : List X) → map f (filter p xs) ≡ filter q (map f xs)
map-filter f p q same [] = refl
map-filter f p q same (x ∷ xs) =
    map-cond f (p x) (x ∷ filter p xs) (filter p xs) ∙ (λ i. cond (same x i) (f x ∷ map-filter f p q same xs i) (map-filter f p q same xs i))

module _ {X Y : Type 0} (G : X → Type 0) (f : X → Y) where
  -- the same, where test and view agree on some elements
  filter-among : (p : X → Bool) (q : Y → Bool) → ((x : X) → G x → p x ≡ q (f x)) → (xs : List X) → All G xs → map f (filter p xs) ≡ filter q (map f xs)
  filter-among p q same [] all = refl
  filter-among p q same (x ∷ xs) all =
      map-cond f (p x) (x ∷ filter p xs) (filter p xs)
      ∙ (λ i. cond (same x (All-head G x xs all) i) (f x ∷ filter-among p q same xs (All-tail G x xs all) i) (filter-among p q same xs (All-tail G x xs all) i))

  -- as many pass it
  count-among : (p : X → Bool) (q : Y → Bool) → ((x : X) → G x → p x ≡ q (f x)) → (xs : List X) → All G xs → count_by p xs ≡ count_by q (map f xs)
  count-among p q same xs all =
      sym (length-filter p xs) ∙ sym (length-map (filter p xs) f) ∙ ap length (filter-among p q same xs all) ∙ length-filter q (map f xs)

  module _ (a : X → X → Bool) (b : Y → Y → Bool) (same : (x y : X) → G x → G y → a x y ≡ b (f x) (f y)) where
    part-among : (xs : List X) → All G xs → (i : ℕ) (x : X) → G x → map (map f) (part_at a xs (i, x)) ≡ part_at b (map f xs) (i, f x)
    part-among xs all i x has =
        let counts : count_by (a x) (take i xs) ≡ count_by (b (f x)) (take i (map f xs)) =
        count-among (a x) (b (f x)) (λ y also. same x y has also) (take i xs) (All-take G i xs all) ∙ ap (count_by (b (f x))) (sym (take-map f i xs)) in
        map-cond (map f) (count_by (a x) (take i xs) == 1) (filter (a x) xs ∷ []) []
        ∙ (λ k. cond (counts k == 1) (filter-among (a x) (b (f x)) (λ y also. same x y has also) xs all k ∷ []) [])

    parts-from : (xs : List X) → All G xs → (n : ℕ) (ys : List X) → All G ys
        → map (map f) (flat_map (part_at a xs) (enumerate_from n ys)) ≡ flat_map (part_at b (map f xs)) (enumerate_from n (map f ys))
    parts-from xs all n [] here = refl
    parts-from xs all n (y ∷ ys) here =
        map-append (map f) (part_at a xs (n, y)) (flat_map (part_at a xs) (enumerate_from (n + 1) ys))
        ∙ (λ k. part-among xs all n y (All-head G y ys here) k ++ parts-from xs all (n + 1) ys (All-tail G y ys here) k)

    -- the parts, viewed, are the parts of the view, where the two tests agree on all elements
    pub parts-among : (xs : List X) → All G xs → map (map f) (parts a xs) ≡ parts b (map f xs)
    parts-among xs all = parts-from xs all 0 xs all

-- what is made of one element more
pub flat_more : {X Y Z : Type 0} (h : Y → List Z) (g : X → Y) (xs : List X) (i : ℕ) (d : X) → i < length xs
    → flat_map h (map g (take (i + 1) xs)) ≡ flat_map h (map g (take i xs)) ++ h (g (get_or xs i d))
flat_more h g xs i d low =
    ap (λ ys. flat_map h (map g ys)) (take_more xs i d low)
    ∙ ap (flat_map h) (map-append g (take i xs) (get_or xs i d ∷ []))
    ∙ flat_map-append h (map g (take i xs)) (g (get_or xs i d) ∷ [])
    ∙ ap (λ zs. flat_map h (map g (take i xs)) ++ zs) (append-nil (h (g (get_or xs i d))))

-- a loop that appends what is made of each element
pub flat_step : {X Y Z : Type 0} (h : Y → List Z) (g : X → Y) (xs : List X) (i : ℕ) (d : X) (old new : List Z) → i < length xs
    → old ≡ flat_map h (map g (take i xs)) → new ≡ old ++ h (g (get_or xs i d)) → new ≡ flat_map h (map g (take (i + 1) xs))
flat_step h g xs i d old new low before after = after ∙ (λ k. before k ++ h (g (get_or xs i d))) ∙ sym (flat_more h g xs i d low)

-- a loop that appends what passes a test
pub filter_step : {X Y : Type 0} (g : X → Y) (p : Y → Bool) (xs : List X) (i : ℕ) (d : X) (old new : List Y) (b : Bool) → i < length xs
    → old ≡ filter p (map g (take i xs)) → b ≡ p (g (get_or xs i d)) → new ≡ old ++ cond b (g (get_or xs i d) ∷ []) []
    → new ≡ filter p (map g (take (i + 1) xs))
filter_step g p xs i d old new b low before is after =
    let x = get_or xs i d in
    after
    ∙ (λ k. before k ++ cond (is k) (g x ∷ []) [])
    ∙ sym (ap (λ ys. filter p (map g ys)) (take_more xs i d low) ∙ ap (filter p) (map-append g (take i xs) (x ∷ [])) ∙ filter-append p (map g (take i xs)) (g x ∷ []))

-- the same, where the element is known by itself
pub flat_step_at : {X Y Z : Type 0} (h : Y → List Z) (g : X → Y) (xs : List X) (i : ℕ) (x : X) (old new : List Z) → i < length xs
    → old ≡ flat_map h (map g (take i xs)) → x ≡ get_or xs i x → new ≡ old ++ h (g x) → new ≡ flat_map h (map g (take (i + 1) xs))
flat_step_at h g xs i x old new low before is after = flat_step h g xs i x old new low before (after ∙ ap (λ y. old ++ h (g y)) is)

pub filter_step_at : {X Y : Type 0} (g : X → Y) (p : Y → Bool) (xs : List X) (i : ℕ) (x : X) (old new : List Y) (b : Bool) → i < length xs
    → old ≡ filter p (map g (take i xs)) → x ≡ get_or xs i x → b ≡ p (g x) → new ≡ old ++ cond b (g x ∷ []) []
    → new ≡ filter p (map g (take (i + 1) xs))
filter_step_at g p xs i x old new b low before is_x is after =
    filter_step g p xs i x old new b low before (is ∙ ap (λ y. p (g y)) is_x) (after ∙ ap (λ y. old ++ cond b (g y ∷ []) []) is_x)

-- a test of the view
pub any-map : {X Y : Type 0} (f : X → Y) (p : Y → Bool) (xs : List X) → list_any (λ x. p (f x)) xs ≡ list_any p (map f xs)
any-map f p [] = refl
any-map f p (x ∷ xs) = ap (λ b. p (f x) || b) (any-map f p xs)
