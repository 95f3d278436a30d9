-- An order of so many indices has each of them once.
use Rattle.std.proofs.Common.{◌≡◌, ℕ, zero, suc, ◌<◌, Bool, true, false, not, cond, ◌&&◌, ◌||◌, nat_eq, List, [], ◌∷◌, ◌++◌, All, length, refl, sym, ap, ap₂, subst, ◌∙◌, arith, add-one, le-ltb, ltb-true}
use Rattle.std.specs.Prelude.{filter}
use Rattle.std.specs.Cmp.{nat_eq_equiv}
use Rattle.std.specs.List.{AllByRecursion, IsDistinct, list_any, range_with_len}
use Rattle.std.proofs.lemmas.Bool.{eqb-true}
use Rattle.std.proofs.lemmas.List.Elements.{filter_passes, recursion_from_All}
use Rattle.std.proofs.lemmas.List.Folds.{list_any-append}
use Rattle.std.proofs.lemmas.List.FromFn.{length-range_with_len}
use Rattle.std.proofs.lemmas.Map.Keys.{IsDistinct-cons, IsDistinct-head, IsDistinct-tail}
use Rattle.std.proofs.lemmas.Map.Made.{length-from_same_keys}
use Rattle.std.proofs.lemmas.Map.Views.{All-from_any, any-filter_same}
use Rattle.driver_requests.specs.CitedEntries.{once}
use Rattle.driver_requests.specs.Order.{is_index_in}
use Rattle.driver_requests.proofs.Once.{once-any, once_more}
use Rattle.driver_requests.proofs.OrderPut.{range_has, range_more}

apart_or_not : {K : Type 0} (P : K → Type 0) (b : Bool) (x : K) (xs : List K) → P x → AllByRecursion P xs → AllByRecursion P (cond b (x ∷ xs) xs)
apart_or_not P true x xs p h = (p, h)
apart_or_not P false x xs p h = h

filtered_apart : {K : Type 0} (p : K → Bool) (P : K → Type 0) (xs : List K) → AllByRecursion P xs → AllByRecursion P (filter p xs)
filtered_apart p P [] h = h
filtered_apart p P (x ∷ xs) h = apart_or_not P (p x) x (filter p xs) h.0 (filtered_apart p P xs h.1)

distinct_or_not : {K : Type 0} (e : K → K → Bool) (b : Bool) (x : K) (xs : List K) → AllByRecursion (λ y. e x y ≡ false) xs → IsDistinct e xs → IsDistinct e (cond b (x ∷ xs) xs)
distinct_or_not e true x xs a d = IsDistinct-cons e x xs a d
distinct_or_not e false x xs a d = d

distinct_filtered : {K : Type 0} (e : K → K → Bool) (p : K → Bool) (xs : List K) → IsDistinct e xs → IsDistinct e (filter p xs)
distinct_filtered e p [] h = h
distinct_filtered e p (x ∷ xs) h =
    distinct_or_not e (p x) x (filter p xs) (filtered_apart p (λ y. e x y ≡ false) xs (IsDistinct-head e x xs h)) (distinct_filtered e p xs (IsDistinct-tail e x xs h))

not_true : (b : Bool) → not b ≡ true → b ≡ false
not_true true h = cc
not_true false h = refl

all_apart : {K : Type 0} (e : K → K → Bool) (x : K) (xs : List K) → AllByRecursion (λ y. not (e x y) ≡ true) xs → AllByRecursion (λ y. e x y ≡ false) xs
all_apart e x [] h = h
all_apart e x (y ∷ ys) h = (not_true (e x y) h.0, all_apart e x ys h.1)

-- no member is there twice
distinct_once : {K : Type 0} (e : K → K → Bool) (xs : List K) → IsDistinct e (once e xs)
unfolding IsDistinct
distinct_once e [] = tt
distinct_once e (x ∷ xs) =
    let others = filter (λ y. not (e x y)) (once e xs) in
    IsDistinct-cons e x others (all_apart e x others (recursion_from_All (λ y. not (e x y) ≡ true) others (filter_passes (λ y. not (e x y)) (once e xs))))
    (distinct_filtered e (λ y. not (e x y)) (once e xs) (distinct_once e xs))

-- all of so many indices are there once
once_range : (n : ℕ) → once nat_eq (range_with_len 0 n) ≡ range_with_len 0 n
once_range zero = refl
once_range (suc n) =
    let more = ap (range_with_len 0) (sym (add-one n)) ∙ range_more n in
    ap (once nat_eq) more
    ∙ once_more nat_eq_equiv (range_with_len 0 n) n
    ∙ ap₂ (λ xs b. xs ++ cond b [] (n ∷ [])) (once_range n) (range_has n n ∙ le-ltb n n (omega arith))
    ∙ sym more

distinct_range : (n : ℕ) → IsDistinct nat_eq (range_with_len 0 n)
distinct_range n = subst (IsDistinct nat_eq) (once_range n) (distinct_once nat_eq (range_with_len 0 n))

absorbed : (b a : Bool) → ((b && a) || b) ≡ b
absorbed true true = refl
absorbed true false = refl
absorbed false a = refl

wanted_among : (indices ws : List ℕ) (q : ℕ) → list_any (nat_eq q) (filter (is_index_in indices) ws ++ indices) ≡ list_any (nat_eq q) indices
wanted_among indices ws q =
    let b = list_any (nat_eq q) indices in
    list_any-append (nat_eq q) (filter (is_index_in indices) ws) indices
    ∙ ap (λ a. a || b) (any-filter_same (nat_eq q) (is_index_in indices) b (λ k h. ap (λ p. list_any (nat_eq p) indices) (sym (eqb-true q k h))) ws)
    ∙ absorbed b (list_any (nat_eq q) ws)

wanted_has : (ws : List ℕ) (n q : ℕ) → list_any (nat_eq q) (once nat_eq (filter (is_index_in (range_with_len 0 n)) ws ++ range_with_len 0 n)) ≡ list_any (nat_eq q) (range_with_len 0 n)
wanted_has ws n q = once-any nat_eq_equiv q (filter (is_index_in (range_with_len 0 n)) ws ++ range_with_len 0 n) ∙ wanted_among (range_with_len 0 n) ws q

-- with the wanted ones first there are as many
pub wanted_length : (ws : List ℕ) (n : ℕ) → length (once nat_eq (filter (is_index_in (range_with_len 0 n)) ws ++ range_with_len 0 n)) ≡ n
wanted_length ws n =
    let indices = filter (is_index_in (range_with_len 0 n)) ws ++ range_with_len 0 n in
    length-from_same_keys nat_eq_equiv (once nat_eq indices) (range_with_len 0 n) (distinct_once nat_eq indices) (distinct_range n) (wanted_has ws n) ∙ length-range_with_len 0 n

-- and no others
pub wanted_within : (ws : List ℕ) (n : ℕ) → All (λ p. p < n) (once nat_eq (filter (is_index_in (range_with_len 0 n)) ws ++ range_with_len 0 n))
wanted_within ws n =
    All-from_any nat_eq_equiv (λ p. p < n) (once nat_eq (filter (is_index_in (range_with_len 0 n)) ws ++ range_with_len 0 n)) (λ q h. ltb-true q n (sym (range_has q n) ∙ sym (wanted_has ws n q) ∙ h))

-- all indices are below their number
pub range_within : (n : ℕ) → All (λ p. p < n) (range_with_len 0 n)
range_within n = All-from_any nat_eq_equiv (λ p. p < n) (range_with_len 0 n) (λ q h. ltb-true q n (sym (range_has q n) ∙ h))
