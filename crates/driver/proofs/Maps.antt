-- Lists that are mapped.
use Rattle.std.proofs.Common.{◌≡◌, ℕ, ◌+◌, Bool, ◌||◌, List, [], ◌∷◌, map, refl, sym, ap, ap₂}
use Rattle.std.specs.List.{enumerate_from, list_any}

pub map_map : {A B C : Type 0} (f : B → C) (g : A → B) (xs : List A) → map f (map g xs) ≡ map (λ (a : A). f (g a)) xs
map_map f g [] = refl
map_map f g (x ∷ xs) = ap (λ zs. f (g x) ∷ zs) (map_map f g xs)

pub maps_of_maps : {A B C : Type 0} (f : B → C) (g : A → B) (xss : List (List A)) → map (map (λ (a : A). f (g a))) xss ≡ map (map f) (map (map g) xss)
maps_of_maps f g [] = refl
maps_of_maps f g (xs ∷ xss) = ap₂ (λ zs zss. zs ∷ zss) (sym (map_map f g xs)) (maps_of_maps f g xss)

pub any_map : {A B : Type 0} (f : A → B) (p : B → Bool) (xs : List A) → list_any p (map f xs) ≡ list_any (λ x. p (f x)) xs
any_map f p [] = refl
any_map f p (x ∷ xs) = ap (λ b. p (f x) || b) (any_map f p xs)

pub any_same : {A : Type 0} (p q : A → Bool) → ((x : A) → p x ≡ q x) → (xs : List A) → list_any p xs ≡ list_any q xs
any_same p q e [] = refl
any_same p q e (x ∷ xs) = λ k. e x k || any_same p q e xs k

-- a member with its index
abbrev pub placed : {A B : Type 0} → (A → B) → ℕ × A → ℕ × B
placed f p = (p.0, f p.1)

pub enumerate_map : {A B : Type 0} (f : A → B) (n : ℕ) (xs : List A) → enumerate_from n (map f xs) ≡ map (placed f) (enumerate_from n xs)
enumerate_map f n [] = refl
enumerate_map f n (x ∷ xs) = ap (λ ys. (n, f x) ∷ ys) (enumerate_map f (n + 1) xs)
