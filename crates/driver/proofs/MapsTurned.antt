-- Lists that are mapped by functions that agree, and members with the ones before them.
use Rattle.std.proofs.Common.{◌≡◌, List, [], ◌∷◌, map, refl, ap, ◌∙◌, Option, Some}
use Rattle.std.specs.Prelude.{filter_map}
use Rattle.std.specs.List.{AllByRecursion, cons_option, last_or, zip}
use Rattle.std.specs.Option.{option_map}
use Rattle.driver_requests.specs.Positions.{with_previous}

-- two functions that agree on each member
pub map_same : {A B : Type 0} (f g : A → B) (xs : List A) → AllByRecursion (λ x. f x ≡ g x) xs → map f xs ≡ map g xs
map_same f g [] h = refl
map_same f g (x ∷ xs) h = λ k. h.0 k ∷ map_same f g xs h.1 k

pub maps_same : {A B : Type 0} (f g : A → B) (xss : List (List A)) → AllByRecursion (AllByRecursion (λ x. f x ≡ g x)) xss → map (map f) xss ≡ map (map g) xss
maps_same f g [] h = refl
maps_same f g (xs ∷ xss) h = λ k. map_same f g xs h.0 k ∷ maps_same f g xss h.1 k

-- a function after another one, as a third and a fourth
pub map_turned : {A B C D : Type 0} (f : B → D) (g : A → B) (h : C → D) (i : A → C) → ((a : A) → f (g a) ≡ h (i a)) → (xs : List A) → map f (map g xs) ≡ map h (map i xs)
map_turned f g h i e [] = refl
map_turned f g h i e (x ∷ xs) = λ k. e x k ∷ map_turned f g h i e xs k

pub maps_turned : {A B C D : Type 0} (f : B → D) (g : A → B) (h : C → D) (i : A → C) → ((a : A) → f (g a) ≡ h (i a)) → (xss : List (List A)) → map (map f) (map (map g) xss) ≡ map (map h) (map (map i) xss)
maps_turned f g h i e [] = refl
maps_turned f g h i e (xs ∷ xss) = λ k. map_turned f g h i e xs k ∷ maps_turned f g h i e xss k

pub filter_map_map : {A B C : Type 0} (f : A → B) (g : B → Option C) (h : A → Option C) → ((a : A) → g (f a) ≡ h a) → (xs : List A) → filter_map g (map f xs) ≡ filter_map h xs
filter_map_map f g h e [] = refl
filter_map_map f g h e (x ∷ xs) = λ k. cons_option (e x k) (filter_map_map f g h e xs k)

-- a member with the one before it
abbrev pub after : {A B : Type 0} → (A → B) → Option A × A → Option B × B
after f p = (option_map f p.0, f p.1)

zip_map : {A B : Type 0} (f : A → B) (last : Option A) (xs : List A) → zip (option_map f last ∷ map (λ y. Some y) (map f xs)) (map f xs) ≡ map (after f) (zip (last ∷ map (λ x. Some x) xs) xs)
zip_map f last [] = refl
zip_map f last (x ∷ xs) = ap (λ ys. (option_map f last, f x) ∷ ys) (zip_map f (Some x) xs)

last_map : {A B : Type 0} (f : A → B) (last : Option A) (xs : List A) → last_or (option_map f last) (map f xs) ≡ option_map f (last_or last xs)
last_map f last [] = refl
last_map f last (x ∷ xs) = last_map f (Some x) xs

pub previous_map : {A B : Type 0} (f : A → B) (last : Option A) (xss : List (List A)) → with_previous (option_map f last) (map (map f) xss) ≡ map (map (after f)) (with_previous last xss)
previous_map f last [] = refl
previous_map f last (xs ∷ xss) =
    (λ k. zip_map f last xs k ∷ with_previous (last_map f last xs k) (map (map f) xss)) ∙ ap (λ yss. map (after f) (zip (last ∷ map (λ x. Some x) xs) xs) ∷ yss) (previous_map f (last_or last xs) xss)

-- pairs, each part of which is mapped
abbrev pub both : {A B C D : Type 0} → (A → B) → (C → D) → A × C → B × D
both f g p = (f p.0, g p.1)
