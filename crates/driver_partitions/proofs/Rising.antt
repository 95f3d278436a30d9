-- Numbers that rise, and those below a bound that pass a test.
use Rattle.std.proofs.Common.{◌≡◌, ℕ, zero, suc, ◌+◌, ◌-◌, ◌<◌, ◌≤◌, Bool, true, false, true≢false, cond, ◌⊎◌, inl, inr, List, [], ◌∷◌, ◌++◌, length, get_or, filter, count_by, Contains, AllPairs, refl, sym, ap, subst, ◌∙◌, arith}
use Rattle.std.specs.List.{range_with_len}
use Rattle.std.specs.List.Sorted.{IsStrictlyIncreasing}
use Rattle.std.proofs.lemmas.Bool.{cases_eq, cases_lt}
use Rattle.std.proofs.lemmas.List.{get_or-append-add, length-append}
use Rattle.std.proofs.lemmas.List.Elements.{filter-append}
use Rattle.std.proofs.lemmas.List.FromFn.{length-range_with_len, get_or-range_with_len}
use Rattle.std.proofs.lemmas.List.Sums.{length-filter, sum_by_push}

-- a number is one of some
abbrev pub Has : List ℕ → ℕ → Type 0
Has [] j = ⊥
Has (x ∷ xs) j = (x ≡ j) ⊎ Has xs j

pub has_from : (xs : List ℕ) (j : ℕ) → Contains xs j → Has xs j
has_from [] j h = absurd (omega (arith, h.1))
has_from (x ∷ xs) j h = by_place h.0 h.1 h.2 (has_from xs j)
  where
    by_place : (k : ℕ) → k < length (x ∷ xs) → get_or (x ∷ xs) k j ≡ j → (Contains xs j → Has xs j) → (x ≡ j) ⊎ Has xs j
    by_place zero low is others = inl is
    by_place (suc k) low is others = inr (others (k, omega (arith, low), is))

pub contains_from : (xs : List ℕ) (j : ℕ) → Has xs j → Contains xs j
contains_from [] j h = absurd h
contains_from (x ∷ xs) j (inl e) = (0, omega arith, e)
contains_from (x ∷ xs) j (inr others) = let c = contains_from xs j others in (suc c.0, omega (arith, c.1), c.2)

-- each number is below all later ones
abbrev pub Rising : List ℕ → Type 0
Rising xs = AllPairs (λ x y. x < y) xs

rest_rises : (x : ℕ) (xs : List ℕ) → Rising (x ∷ xs) → Rising xs
rest_rises x xs h = λ i j d low within. h (suc i) (suc j) d (omega (arith, low)) (omega (arith, within))

first_below : (x : ℕ) (xs : List ℕ) → Rising (x ∷ xs) → (j : ℕ) → Has xs j → x < j
first_below x xs h j has =
    let c = contains_from xs j has in
    subst (λ n. x < n) c.2 (h 0 (suc c.0) j (omega arith) (omega (arith, c.1)))

heads : (x y : ℕ) (xs ys : List ℕ) → Rising (x ∷ xs) → Rising (y ∷ ys) → Has (y ∷ ys) x → Has (x ∷ xs) y → x ≡ y
heads x y xs ys rises other (inl e) q = sym e
heads x y xs ys rises other (inr p) (inl e) = e
heads x y xs ys rises other (inr p) (inr q) = absurd (omega (arith, first_below y ys other x p, first_below x xs rises y q))

others : (x y : ℕ) (xs ys : List ℕ) → Rising (x ∷ xs) → x ≡ y → ((j : ℕ) → Has (x ∷ xs) j → Has (y ∷ ys) j) → (j : ℕ) → Has xs j → Has ys j
others x y xs ys rises e to j has = after (to j (inr has))
  where
    after : Has (y ∷ ys) j → Has ys j
    after (inl same) = let low : x < j = first_below x xs rises j has in absurd (omega (arith, low, e, same))
    after (inr h) = h

-- two lists of the same numbers that rise are one
pub same_rising : (xs ys : List ℕ) → Rising xs → Rising ys → ((j : ℕ) → Has xs j → Has ys j) → ((j : ℕ) → Has ys j → Has xs j) → xs ≡ ys
same_rising [] [] rises other to from = refl
same_rising [] (y ∷ ys) rises other to from = absurd (from y (inl refl))
same_rising (x ∷ xs) [] rises other to from = absurd (to x (inl refl))
same_rising (x ∷ xs) (y ∷ ys) rises other to from =
    let e : x ≡ y = heads x y xs ys rises other (to x (inl refl)) (from y (inl refl)) in
    let rest : xs ≡ ys = same_rising xs ys (rest_rises x xs rises) (rest_rises y ys other) (others x y xs ys rises e to) (others y x ys xs other (sym e) from) in
    λ k. e k ∷ rest k

-- no number stands at two places
pub one_place : (xs : List ℕ) → Rising xs → (i j : ℕ) → i < length xs → j < length xs → get_or xs i 0 ≡ get_or xs j 0 → i ≡ j
one_place xs rises i j low high e = either (cases_lt i j) (cases_lt j i)
  where
    either : (i < j) ⊎ (j ≤ i) → (j < i) ⊎ (i ≤ j) → i ≡ j
    either (inl less) o = absurd (omega (arith, rises i j 0 less high, e))
    either (inr more) (inl less) = absurd (omega (arith, rises j i 0 less low, e))
    either (inr more) (inr less) = omega (arith, more, less)

-- what passes a test
pub has_filter : (p : ℕ → Bool) (xs : List ℕ) (j : ℕ) → Has (filter p xs) j → Has xs j × (p j ≡ true)
has_filter p [] j h = absurd h
has_filter p (x ∷ xs) j h = by_test (p x) refl h (has_filter p xs j)
  where
    by_test : (b : Bool) → p x ≡ b → Has (cond b (x ∷ filter p xs) (filter p xs)) j → (Has (filter p xs) j → Has xs j × (p j ≡ true)) → Has (x ∷ xs) j × (p j ≡ true)
    by_test true e (inl same) rest = (inl same, ap p (sym same) ∙ e)
    by_test true e (inr later) rest = let r = rest later in (inr r.0, r.1)
    by_test false e later rest = let r = rest later in (inr r.0, r.1)

pub filter_has : (p : ℕ → Bool) (xs : List ℕ) (j : ℕ) → Has xs j → p j ≡ true → Has (filter p xs) j
filter_has p [] j h pass = absurd h
filter_has p (x ∷ xs) j h pass = by_test (p x) refl h (filter_has p xs j)
  where
    by_test : (b : Bool) → p x ≡ b → Has (x ∷ xs) j → (Has xs j → p j ≡ true → Has (filter p xs) j) → Has (cond b (x ∷ filter p xs) (filter p xs)) j
    by_test true e (inl same) rest = inl same
    by_test true e (inr later) rest = inr (rest later pass)
    by_test false e (inl same) rest = absurd (true≢false (sym pass ∙ ap p (sym same) ∙ e))
    by_test false e (inr later) rest = rest later pass

-- the numbers from one on
pub has_range : (a n j : ℕ) → Has (range_with_len a n) j → (a ≤ j) × (j < a + n)
has_range a zero j h = absurd h
has_range a (suc n) j (inl e) = (omega (arith, e), omega (arith, e))
has_range a (suc n) j (inr later) = let r = has_range (a + 1) n j later in (omega (arith, r.0), omega (arith, r.1))

pub range_has : (a n j : ℕ) → a ≤ j → j < a + n → Has (range_with_len a n) j
range_has a zero j low high = absurd (omega (arith, low, high))
range_has a (suc n) j low high = either (cases_eq a j)
    (λ apart. range_has (a + 1) n j (omega (arith, low, apart)) (omega (arith, high)))
  where
    either : (a ≡ j) ⊎ (a ≡ j → ⊥) → ((a ≡ j → ⊥) → Has (range_with_len (a + 1) n) j) → (a ≡ j) ⊎ Has (range_with_len (a + 1) n) j
    either (inl e) later = inl e
    either (inr apart) later = inr (later apart)

pub range_rises : (n : ℕ) → IsStrictlyIncreasing (range_with_len 0 n)
range_rises n k within =
    let long = length-range_with_len 0 n in
    let low : k < n = omega (arith, within, long) in
    let next : k + 1 < n = omega (arith, within, long) in
    omega (arith, get_or-range_with_len 0 n k 0 low, get_or-range_with_len 0 n (k + 1) 0 next)

pub range-append : (a m n : ℕ) → range_with_len a (m + n) ≡ range_with_len a m ++ range_with_len (a + m) n
range-append a zero n =
    let e : zero + n ≡ n = omega arith in
    let f : a ≡ a + zero = omega arith in
    λ k. range_with_len (f k) (e k)
range-append a (suc m) n =
    let e : suc m + n ≡ suc (m + n) = omega arith in
    let f : (a + 1) + m ≡ a + suc m = omega arith in
    ap (range_with_len a) e ∙ ap (λ ns. a ∷ ns) (range-append (a + 1) m n ∙ ap (λ b. range_with_len (a + 1) m ++ range_with_len b n) f)

range_at : (b k : ℕ) → k < b → range_with_len 0 b ≡ range_with_len 0 k ++ k ∷ range_with_len (k + 1) (b - (k + 1))
range_at b k low =
    let e : b ≡ k + suc (b - (k + 1)) = omega (arith, low) in
    let none : 0 + k ≡ k = omega arith in
    ap (range_with_len 0) e ∙ range-append 0 k (suc (b - (k + 1))) ∙ ap (λ a. range_with_len 0 k ++ range_with_len a (suc (b - (k + 1)))) none

-- A number below a bound that passes a test, among all that do.
module _ (q : ℕ → Bool) (b k : ℕ) (low : k < b) (pass : q k ≡ true) where
  abbrev earlier : List ℕ
  earlier = filter q (range_with_len 0 k)

  abbrev later : List ℕ
  later = filter q (range_with_len (k + 1) (b - (k + 1)))

  filter_at : filter q (range_with_len 0 b) ≡ earlier ++ k ∷ later
  filter_at =
      ap (filter q) (range_at b k low)
      ∙ filter-append q (range_with_len 0 k) (k ∷ range_with_len (k + 1) (b - (k + 1)))
      ∙ ap (λ t. earlier ++ cond t (k ∷ later) later) pass

  pub nth_at : get_or (filter q (range_with_len 0 b)) (count_by q (range_with_len 0 k)) 0 ≡ k
  nth_at =
      let place : count_by q (range_with_len 0 k) ≡ length earlier + 0 = omega (arith, length-filter q (range_with_len 0 k)) in
      (λ t. get_or (filter_at t) (place t) 0) ∙ get_or-append-add earlier (k ∷ later) 0 0

  pub low_at : count_by q (range_with_len 0 k) < length (filter q (range_with_len 0 b))
  low_at =
      let e : length (filter q (range_with_len 0 b)) ≡ length (earlier ++ k ∷ later) = ap length filter_at in
      let long : length (earlier ++ k ∷ later) ≡ length earlier + suc (length later) = length-append earlier (k ∷ later) in
      omega (arith, e, long, length-filter q (range_with_len 0 k))

count_more : (q : ℕ → Bool) (b : ℕ) → count_by q (range_with_len 0 (suc b)) ≡ count_by q (range_with_len 0 b) + cond (q b) 1 0
count_more q b =
    let e : suc b ≡ b + 1 = omega arith in
    let none : 0 + b ≡ b = omega arith in
    ap (λ n. count_by q (range_with_len 0 n)) e
    ∙ ap (count_by q) (range-append 0 b 1 ∙ ap (λ a. range_with_len 0 b ++ a ∷ []) none)
    ∙ sum_by_push (λ x. cond (q x) 1 0) (range_with_len 0 b) b

-- the number before which n others pass a test
pub nth_found : (q : ℕ → Bool) (b n : ℕ) → n < count_by q (range_with_len 0 b) → (k : ℕ) × (k < b) × (q k ≡ true) × (count_by q (range_with_len 0 k) ≡ n)
nth_found q zero n h = absurd (omega (arith, h))
nth_found q (suc b) n h = by_test (q b) refl (cases_lt n (count_by q (range_with_len 0 b))) (nth_found q b n)
  where
    by_test : (t : Bool) → q b ≡ t → (n < count_by q (range_with_len 0 b)) ⊎ (count_by q (range_with_len 0 b) ≤ n)
        → (n < count_by q (range_with_len 0 b) → (k : ℕ) × (k < b) × (q k ≡ true) × (count_by q (range_with_len 0 k) ≡ n))
        → (k : ℕ) × (k < suc b) × (q k ≡ true) × (count_by q (range_with_len 0 k) ≡ n)
    by_test t e (inl less) rest = let f = rest less in (f.0, omega (arith, f.1), f.2, f.3)
    by_test true e (inr more) rest =
        let one : count_by q (range_with_len 0 (suc b)) ≡ count_by q (range_with_len 0 b) + 1 = count_more q b ∙ ap (λ t. count_by q (range_with_len 0 b) + cond t 1 0) e in
        (b, omega arith, e, omega (arith, h, more, one))
    by_test false e (inr more) rest =
        let one : count_by q (range_with_len 0 (suc b)) ≡ count_by q (range_with_len 0 b) + 0 = count_more q b ∙ ap (λ t. count_by q (range_with_len 0 b) + cond t 1 0) e in
        absurd (omega (arith, h, more, one))
