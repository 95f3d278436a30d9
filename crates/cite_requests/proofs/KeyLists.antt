-- Lists of keys, and of members that are compared by their keys alone.
use Rattle.std.proofs.Common.{◌≡◌, ℕ, zero, suc, ◌+◌, Bool, true, false, not, cond, ◌||◌, nat_lt, List, [], ◌∷◌, map, length, filter, find, slice_get, Option, Some, None, refl, sym, ap, ◌∙◌, arith, true≢false}
use Rattle.std.specs.Prelude.{position}
use Rattle.std.specs.List.{cons_option, list_any, position_or_len}
use Rattle.std.specs.Option.{unwrap_or}
use Rattle.std.specs.Str.{bytes_eq}
use Rattle.std.proofs.lemmas.Bool.Decides.{Decides-like, same_from_decides}
use Rattle.std.proofs.lemmas.List.{length-map}
use Rattle.std.proofs.lemmas.List.Folds.{find_at}
use Rattle.std.proofs.lemmas.Slice.Eq.{bytes_eq-Decides}
use Rattle.driver_requests.specs.CitedEntries.{once, index_among, indices_among}
use Rattle.cite_requests.specs.Cited.{is_among}

-- keys that are one
pub key_is : (k l : List ℕ) → bytes_eq k l ≡ true → k ≡ l
key_is k l e = (bytes_eq-Decides k l).0 e

pub turned : (k l : List ℕ) → bytes_eq k l ≡ false → bytes_eq l k ≡ false
turned k l e = same_from_decides (bytes_eq l k) (bytes_eq k l) (bytes_eq-Decides l k) (Decides-like (bytes_eq k l) sym sym (bytes_eq-Decides k l)) ∙ e

-- a test of the keys of members, taken of members
module _ {X Y : Type 0} (f : X → Y) where
  pub position_mapped : (p : Y → Bool) (xs : List X) → position_or_len (λ x. p (f x)) xs ≡ position_or_len p (map f xs)
  position_mapped p [] = refl
  position_mapped p (x ∷ xs) = λ i. cond (not (p (f x))) (1 + position_mapped p xs i) 0

  pub found_mapped : (p : Y → Bool) (xs : List X) → position (λ x. p (f x)) xs ≡ position p (map f xs)
  found_mapped p xs = λ i. cond (nat_lt (position_mapped p xs i) (sym (length-map xs f) i)) (Some (position_mapped p xs i)) None

  pub filter_mapped : (p : Y → Bool) (xs : List X) → map f (filter (λ x. p (f x)) xs) ≡ filter p (map f xs)
  filter_mapped p [] = refl
  filter_mapped p (x ∷ xs) = by (p (f x)) ∙ ap (λ (ys : List Y). cond (p (f x)) (f x ∷ ys) ys) (filter_mapped p xs)
    where
      by : (b : Bool) → map f (cond b (x ∷ filter (λ y. p (f y)) xs) (filter (λ y. p (f y)) xs)) ≡ cond b (f x ∷ map f (filter (λ y. p (f y)) xs)) (map f (filter (λ y. p (f y)) xs))
      by true = refl
      by false = refl

  module _ (same : Y → Y → Bool) where
    pub once_mapped : (xs : List X) → map f (once (λ x y. same (f x) (f y)) xs) ≡ once same (map f xs)
    once_mapped [] = refl
    once_mapped (x ∷ xs) =
        ap (λ (ys : List Y). f x ∷ ys) (filter_mapped (λ y. not (same (f x) y)) (once (λ x y. same (f x) (f y)) xs) ∙ ap (filter (λ y. not (same (f x) y))) (once_mapped xs))

    pub index_mapped : (xs : List X) (x : X) → index_among (λ x y. same (f x) (f y)) xs x ≡ index_among same (map f xs) (f x)
    index_mapped xs x = position_mapped (same (f x)) (once (λ x y. same (f x) (f y)) xs) ∙ ap (position_or_len (same (f x))) (once_mapped xs)

    pub indices_mapped : (xs ys : List X) → indices_among (λ x y. same (f x) (f y)) xs ys ≡ indices_among same (map f xs) (map f ys)
    indices_mapped xs [] = refl
    indices_mapped xs (y ∷ ys) =
        λ i. cons_option ((found_mapped (same (f y)) (once (λ x y. same (f x) (f y)) xs) ∙ ap (position (same (f y))) (once_mapped xs)) i) (indices_mapped xs ys i)

-- where no member passes a test none is found
none_passes : {X : Type 0} (p : X → Bool) (xs : List X) → list_any p xs ≡ false → position_or_len p xs ≡ length xs
none_passes p [] none = refl
none_passes p (x ∷ xs) none = by (none_passes p xs) (p x) none
  where
    by : (list_any p xs ≡ false → position_or_len p xs ≡ length xs) → (b : Bool) → (b || list_any p xs) ≡ false → cond (not b) (1 + position_or_len p xs) 0 ≡ suc (length xs)
    by more true is = absurd (true≢false is)
    by more false is = let e = more is in omega arith

not_below : (m n : ℕ) → m ≡ n → nat_lt m n ≡ false
not_below m n e = grind arith

none_found : {X : Type 0} (p : X → Bool) (xs : List X) → list_any p xs ≡ false → position p xs ≡ None
none_found p xs none = ap (λ (b : Bool). cond b (Some (position_or_len p xs)) None) (not_below (position_or_len p xs) (length xs) (none_passes p xs none))

-- a test that holds of a kept key alone keeps its answer where others are left out
module _ (k x : List ℕ) (differ : bytes_eq k x ≡ false) where
  left : (ks : List (List ℕ)) → list_any (bytes_eq k) (filter (λ y. not (bytes_eq x y)) ks) ≡ list_any (bytes_eq k) ks
  left [] = refl
  left (y ∷ ks) = by (bytes_eq x y) refl ∙ ap (λ (b : Bool). bytes_eq k y || b) (left ks)
    where
      apart : bytes_eq x y ≡ true → bytes_eq k y ≡ false
      apart e = ap (bytes_eq k) (sym (key_is x y e)) ∙ differ

      by : (b : Bool) → bytes_eq x y ≡ b → list_any (bytes_eq k) (cond (not b) (y ∷ filter (λ z. not (bytes_eq x z)) ks) (filter (λ z. not (bytes_eq x z)) ks)) ≡ (bytes_eq k y || list_any (bytes_eq k) (filter (λ z. not (bytes_eq x z)) ks))
      by true e = ap (λ (b : Bool). b || list_any (bytes_eq k) (filter (λ z. not (bytes_eq x z)) ks)) (sym (apart e))
      by false e = refl

-- a key is among others where it is among these once
pub among_once : (k : List ℕ) (ks : List (List ℕ)) → is_among (once bytes_eq ks) k ≡ is_among ks k
among_once k [] = refl
among_once k (x ∷ ks) = by (among_once k ks) (bytes_eq k x) refl
  where
    by : is_among (once bytes_eq ks) k ≡ is_among ks k → (b : Bool) → bytes_eq k x ≡ b → (b || list_any (bytes_eq k) (filter (λ y. not (bytes_eq x y)) (once bytes_eq ks))) ≡ (b || list_any (bytes_eq k) ks)
    by more true e = refl
    by more false e = left k x e (once bytes_eq ks) ∙ more

-- a key that is among others is found there
find_key : (k : List ℕ) (ks : List (List ℕ)) → is_among ks k ≡ true → find (bytes_eq k) ks ≡ Some k
find_key k [] e = absurd (true≢false (sym e))
find_key k (x ∷ ks) e = by (find_key k ks) (bytes_eq k x) refl e
  where
    by : (is_among ks k ≡ true → find (bytes_eq k) ks ≡ Some k) → (b : Bool) → bytes_eq k x ≡ b → (b || list_any (bytes_eq k) ks) ≡ true → cond b (Some x) (find (bytes_eq k) ks) ≡ Some k
    by more true same h = ap (λ (y : List ℕ). Some y) (sym (key_is k x same))
    by more false same h = more h

-- the key at the index of a key
pub key_at_index : (ks : List (List ℕ)) (k : List ℕ) → is_among ks k ≡ true → slice_get (once bytes_eq ks) (index_among bytes_eq ks k) ≡ Some k
key_at_index ks k e = sym (find_at (bytes_eq k) (once bytes_eq ks)) ∙ find_key k (once bytes_eq ks) (among_once k ks ∙ e)

-- what stands at an index is among the keys
at_is_among : (ks : List (List ℕ)) (n : ℕ) (k : List ℕ) → slice_get ks n ≡ Some k → is_among ks k ≡ true
at_is_among [] n k e = absurd cc
at_is_among (x ∷ ks) zero k e = ap (λ (b : Bool). b || list_any (bytes_eq k) ks) ((bytes_eq-Decides k x).1 (sym (ap (λ o. unwrap_or o x) e)))
at_is_among (x ∷ ks) (suc n) k e = ap (λ (b : Bool). bytes_eq k x || b) (at_is_among ks n k e) ∙ or_true (bytes_eq k x)
  where
    or_true : (b : Bool) → (b || true) ≡ true
    or_true true = refl
    or_true false = refl

pub at_once_among : (ks : List (List ℕ)) (n : ℕ) (k : List ℕ) → slice_get (once bytes_eq ks) n ≡ Some k → is_among ks k ≡ true
at_once_among ks n k e = sym (among_once k ks) ∙ at_is_among (once bytes_eq ks) n k e

-- keys that are not among others have no index among these
pub indices_of_cited : (ks keys : List (List ℕ)) → indices_among bytes_eq ks keys ≡ indices_among bytes_eq ks (filter (is_among ks) keys)
indices_of_cited ks [] = refl
indices_of_cited ks (k ∷ keys) = ap (cons_option (position (bytes_eq k) (once bytes_eq ks))) (indices_of_cited ks keys) ∙ by (is_among ks k) refl
  where
    by : (b : Bool) → is_among ks k ≡ b
        → cons_option (position (bytes_eq k) (once bytes_eq ks)) (indices_among bytes_eq ks (filter (is_among ks) keys)) ≡ indices_among bytes_eq ks (cond b (k ∷ filter (is_among ks) keys) (filter (is_among ks) keys))
    by true e = refl
    by false e = ap (λ (o : Option ℕ). cons_option o (indices_among bytes_eq ks (filter (is_among ks) keys))) (none_found (bytes_eq k) (once bytes_eq ks) (among_once k ks ∙ e))

-- two tests, one after the other
pub filter_turned : {X : Type 0} (p q : X → Bool) (xs : List X) → filter p (filter q xs) ≡ filter q (filter p xs)
filter_turned p q [] = refl
filter_turned p q (x ∷ xs) = by (filter_turned p q xs) (p x) refl (q x) refl
  where
    by : filter p (filter q xs) ≡ filter q (filter p xs) → (b : Bool) → p x ≡ b → (c : Bool) → q x ≡ c → filter p (cond c (x ∷ filter q xs) (filter q xs)) ≡ filter q (cond b (x ∷ filter p xs) (filter p xs))
    by one true is true too = (λ i. cond (is i) (x ∷ one i) (one i)) ∙ sym (λ i. cond (too i) (x ∷ filter q (filter p xs)) (filter q (filter p xs)))
    by one true is false too = one ∙ sym (λ i. cond (too i) (x ∷ filter q (filter p xs)) (filter q (filter p xs)))
    by one false is true too = (λ i. cond (is i) (x ∷ one i) (one i))
    by one false is false too = one

-- two tests that agree at all that passes a third
pub filter_agrees : {X : Type 0} (third p q : X → Bool) → ((x : X) → third x ≡ true → p x ≡ q x) → (xs : List X) → filter p (filter third xs) ≡ filter q (filter third xs)
filter_agrees third p q agree [] = refl
filter_agrees third p q agree (x ∷ xs) = by (filter_agrees third p q agree xs) (third x) refl
  where
    by : filter p (filter third xs) ≡ filter q (filter third xs) → (b : Bool) → third x ≡ b → filter p (cond b (x ∷ filter third xs) (filter third xs)) ≡ filter q (cond b (x ∷ filter third xs) (filter third xs))
    by more true is = λ i. cond (agree x is i) (x ∷ more i) (more i)
    by more false is = more
