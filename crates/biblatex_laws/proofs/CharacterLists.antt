-- Lists of characters.
use Rattle.std.proofs.Common.{◌≡◌, ℕ, Bool, true, false, ◌&&◌, List, [], ◌∷◌, ◌++◌, flat_map, refl}
use Rattle.std.specs.Str.{all_scalars}
use lib.Utf8.{scalar}

pub first_of : (a b : Bool) → a && b ≡ true → a ≡ true
first_of true b e = refl
first_of false b e = absurd cc

pub second_of : (a b : Bool) → a && b ≡ true → b ≡ true
second_of true b e = e
second_of false b e = absurd cc

pub both_of : (a b : Bool) → a ≡ true → b ≡ true → a && b ≡ true
both_of a b p q = rw (p, q) refl

pub append : (xs ys : List ℕ) → all_scalars xs ≡ true → all_scalars ys ≡ true → all_scalars (xs ++ ys) ≡ true
append [] ys p q = q
append (x ∷ xs) ys p q = both_of (scalar x) (all_scalars (xs ++ ys)) (first_of (scalar x) (all_scalars xs) p) (append xs ys (second_of (scalar x) (all_scalars xs) p) q)

pub left : (xs ys : List ℕ) → all_scalars (xs ++ ys) ≡ true → all_scalars xs ≡ true
left [] ys p = refl
left (x ∷ xs) ys p = both_of (scalar x) (all_scalars xs) (first_of (scalar x) (all_scalars (xs ++ ys)) p) (left xs ys (second_of (scalar x) (all_scalars (xs ++ ys)) p))

pub right : (xs ys : List ℕ) → all_scalars (xs ++ ys) ≡ true → all_scalars ys ≡ true
right [] ys p = p
right (x ∷ xs) ys p = right xs ys (second_of (scalar x) (all_scalars (xs ++ ys)) p)

pub head : (x : ℕ) (xs : List ℕ) → all_scalars (x ∷ xs) ≡ true → all_scalars (x ∷ []) ≡ true
head x xs p = both_of (scalar x) true (first_of (scalar x) (all_scalars xs) p) refl

pub tail : (x : ℕ) (xs : List ℕ) → all_scalars (x ∷ xs) ≡ true → all_scalars xs ≡ true
tail x xs p = second_of (scalar x) (all_scalars xs) p

pub one : (x : ℕ) → scalar x ≡ true → all_scalars (x ∷ []) ≡ true
one x p = both_of (scalar x) true p refl

-- characters that each give characters
pub gives : (f : ℕ → List ℕ) → ((x : ℕ) → scalar x ≡ true → all_scalars (f x) ≡ true) → (cs : List ℕ) → all_scalars cs ≡ true → all_scalars (flat_map f cs) ≡ true
gives f each [] p = refl
gives f each (c ∷ cs) p = append (f c) (flat_map f cs) (each c (first_of (scalar c) (all_scalars cs) p)) (gives f each cs (second_of (scalar c) (all_scalars cs) p))
