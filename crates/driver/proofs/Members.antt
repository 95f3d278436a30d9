-- What holds of each member of a list that is made of others.
use Rattle.std.proofs.Common.{ℕ, ◌+◌, Bool, true, false, cond, List, [], ◌∷◌, ◌++◌, drop, filter, map}
use Rattle.std.specs.List.{AllByRecursion, enumerate_from, flat_map, last_or, zip}
use Rattle.std.specs.Prelude.{Option, Some}
use Rattle.std.proofs.lemmas.List.Elements.{All-drop, All-from_recursion, recursion_from_All}
use Rattle.driver_requests.specs.Positions.{with_previous}
use Rattle.driver_rounds.specs.FirstPrints.{flattened}

pub append_all : {A : Type 0} (P : A → Type 0) (xs ys : List A) → AllByRecursion P xs → AllByRecursion P ys → AllByRecursion P (xs ++ ys)
append_all P [] ys h k = k
append_all P (x ∷ xs) ys h k = (h.0, append_all P xs ys h.1 k)

pub flat_all : {A B : Type 0} (P : B → Type 0) (f : A → List B) (xs : List A) → AllByRecursion (λ a. AllByRecursion P (f a)) xs → AllByRecursion P (flat_map f xs)
flat_all P f [] h = tt
flat_all P f (x ∷ xs) h = append_all P (f x) (flat_map f xs) h.0 (flat_all P f xs h.1)

pub map_all : {A B : Type 0} (P : B → Type 0) (f : A → B) (xs : List A) → AllByRecursion (λ a. P (f a)) xs → AllByRecursion P (map f xs)
map_all P f [] h = tt
map_all P f (x ∷ xs) h = (h.0, map_all P f xs h.1)

pub weaker_all : {A : Type 0} (P Q : A → Type 0) → ((a : A) → P a → Q a) → (xs : List A) → AllByRecursion P xs → AllByRecursion Q xs
weaker_all P Q w [] h = tt
weaker_all P Q w (x ∷ xs) h = (w x h.0, weaker_all P Q w xs h.1)

pub every_all : {A : Type 0} (P : A → Type 0) → ((a : A) → P a) → (xs : List A) → AllByRecursion P xs
every_all P w [] = tt
every_all P w (x ∷ xs) = (w x, every_all P w xs)

pub either_all : {A : Type 0} (P : A → Type 0) (b : Bool) (xs ys : List A) → AllByRecursion P xs → AllByRecursion P ys → AllByRecursion P (cond b xs ys)
either_all P true xs ys h k = h
either_all P false xs ys h k = k

pub filter_all : {A : Type 0} (P : A → Type 0) (p : A → Bool) (xs : List A) → AllByRecursion P xs → AllByRecursion P (filter p xs)
filter_all P p [] h = tt
filter_all P p (x ∷ xs) h = either_all P (p x) (x ∷ filter p xs) (filter p xs) (h.0, filter_all P p xs h.1) (filter_all P p xs h.1)

pub drop_all : {A : Type 0} (P : A → Type 0) (n : ℕ) (xs : List A) → AllByRecursion P xs → AllByRecursion P (drop n xs)
drop_all P n xs h = recursion_from_All P (drop n xs) (All-drop P n xs (All-from_recursion P xs h))

pub enumerate_all : {A : Type 0} (P : A → Type 0) (n : ℕ) (xs : List A) → AllByRecursion P xs → AllByRecursion (λ (p : ℕ × A). P p.1) (enumerate_from n xs)
enumerate_all P n [] h = tt
enumerate_all P n (x ∷ xs) h = (h.0, enumerate_all P (n + 1) xs h.1)

pub zip_all : {A B : Type 0} (P : B → Type 0) (xs : List A) (ys : List B) → AllByRecursion P ys → AllByRecursion (λ (p : A × B). P p.1) (zip xs ys)
zip_all P [] ys h = tt
zip_all P (x ∷ xs) [] h = tt
zip_all P (x ∷ xs) (y ∷ ys) h = (h.0, zip_all P xs ys h.1)

pub previous_all : {X : Type 0} (P : X → Type 0) (last : Option X) (xss : List (List X)) → AllByRecursion (AllByRecursion P) xss → AllByRecursion (AllByRecursion (λ (p : Option X × X). P p.1)) (with_previous last xss)
previous_all P last [] h = tt
previous_all P last (xs ∷ xss) h = (zip_all P (last ∷ map (λ x. Some x) xs) xs h.0, previous_all P (last_or last xs) xss h.1)

-- what holds of each member of two lists one after the other holds of each member of both
pub both_all : {A : Type 0} (P : A → Type 0) (xs ys : List A) → AllByRecursion P (xs ++ ys) → AllByRecursion P xs × AllByRecursion P ys
both_all P [] ys h = (tt, h)
both_all P (x ∷ xs) ys h = let rest = both_all P xs ys h.1 in ((h.0, rest.0), rest.1)

-- and so with more lists
pub parts_all : {A : Type 0} (P : A → Type 0) (xss : List (List A)) → AllByRecursion P (flattened xss) → AllByRecursion (AllByRecursion P) xss
parts_all P [] h = tt
parts_all P (xs ∷ xss) h = let both = both_all P xs (flattened xss) h in (both.0, parts_all P xss both.1)
