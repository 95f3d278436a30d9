-- Members that are the same, and how many they are.
use Rattle.std.proofs.Common.{◌≡◌, ◌⊎◌, ℕ, zero, suc, ◌+◌, ◌-◌, ◌<◌, ◌≤◌, Bool, true, false, not, cond, ◌&&◌, ◌||◌, nat_eq, nat_lt, List, [], ◌∷◌, All, map, length, get_or, take, drop, inl, inr, refl, sym, ap, ◌∙◌, arith, eq-eqb, ne_eqb, ltb-true, ltb-false, lt-ltb, le-ltb}
use Rattle.std.specs.Prelude.{count_by, filter}
use Rattle.std.specs.Cmp.{IsEquivalence}
use Rattle.std.specs.Cmp.Lexicographic.{pointwise}
use Rattle.std.specs.List.{list_any, position_or_len, range_with_len, slice_get, sum_by}
use Rattle.std.specs.Option.{option_eq}
use Rattle.std.proofs.Math.Path.{fun_ext}
use Rattle.std.proofs.lemmas.Bool.{cases_eq, false≢true}
use Rattle.std.proofs.lemmas.List.{get_or-map}
use Rattle.std.proofs.lemmas.List.Elements.{All-contains_itself, All-head, All-tail}
use Rattle.std.proofs.lemmas.List.FromFn.{get_or-range_with_len}
use Rattle.std.proofs.lemmas.List.Sums.{sum_by-cons}
use Rattle.std.proofs.lemmas.Map.Views.{list_any-from_Contains}
use Rattle.driver_names.specs.Shared.{last_passing}

le_step : (b : Bool) (m n : ℕ) → m ≤ n → cond b (suc n) m ≤ suc n
le_step true m n h = omega arith
le_step false m n h = omega (arith, h)

last-le : (test : ℕ → Bool) (n : ℕ) → last_passing 0 test n ≤ n
last-le test zero = omega arith
last-le test (suc n) = le_step (test n) (last_passing 0 test n) n (last-le test n)

fewer : (test : ℕ → Bool) → ((n : ℕ) → test (suc n) ≡ true → test n ≡ true) → (n d : ℕ) → test (n + d) ≡ true → test n ≡ true
fewer test down n zero h =
    let e : n + zero ≡ n = omega arith in sym (ap test e) ∙ h
fewer test down n (suc d) h =
    let e : n + suc d ≡ suc (n + d) = omega arith in fewer test down n d (down (n + d) (sym (ap test e) ∙ h))

module _ (test : ℕ → Bool) (k n : ℕ) where
  last_other : (n ≡ k) ⊎ (n ≡ k → ⊥) → test k ≡ false → n < suc k → (n < k → nat_lt n (last_passing 0 test k) ≡ test n) → nat_lt n (last_passing 0 test k) ≡ test n
  last_other (inl e) is low before = le-ltb n (last_passing 0 test k) (omega (arith, e, last-le test k)) ∙ sym (ap test e ∙ is)
  last_other (inr ne) is low before = before (omega (arith, ne, low))

  last_step : ((m : ℕ) → test (suc m) ≡ true → test m ≡ true) → (b : Bool) → test k ≡ b → n < suc k → (n < k → nat_lt n (last_passing 0 test k) ≡ test n)
      → nat_lt n (cond b (suc k) (last_passing 0 test k)) ≡ test n
  last_step down true is low before =
      let e : n + (k - n) ≡ k = omega (arith, low) in
      lt-ltb n (suc k) low ∙ sym (fewer test down n (k - n) (ap test e ∙ is))
  last_step down false is low before = last_other (cases_eq n k) is low before

-- where a test that a number passes is passed by all lesser ones, the numbers that pass it are those below the last
pub last-is : (test : ℕ → Bool) → ((n : ℕ) → test (suc n) ≡ true → test n ≡ true) → (k n : ℕ) → n < k → nat_lt n (last_passing 0 test k) ≡ test n
last-is test down zero n low = absurd (omega (arith, low))
last-is test down (suc k) n low = last_step test k n down (test k) refl low (last-is test down k n)

pub and_true : (b : Bool) → (b && true) ≡ b
and_true true = refl
and_true false = refl

and_assoc : (a b c : Bool) → (a && (b && c)) ≡ ((a && b) && c)
and_assoc true b c = refl
and_assoc false b c = refl

-- one element more is compared
pub pointwise_next : {X : Type 0} (same : X → X → Bool) (n : ℕ) (xs ys : List X)
    → pointwise same (take (suc n) xs) (take (suc n) ys) ≡ (pointwise same (take n xs) (take n ys) && option_eq same (slice_get xs n) (slice_get ys n))
pointwise_next same zero [] [] = refl
pointwise_next same zero [] (y ∷ ys) = refl
pointwise_next same zero (x ∷ xs) [] = refl
pointwise_next same zero (x ∷ xs) (y ∷ ys) = and_true (same x y)
pointwise_next same (suc n) [] [] = refl
pointwise_next same (suc n) [] (y ∷ ys) = refl
pointwise_next same (suc n) (x ∷ xs) [] = refl
pointwise_next same (suc n) (x ∷ xs) (y ∷ ys) =
    ap (λ b. same x y && b) (pointwise_next same n xs ys) ∙ and_assoc (same x y) (pointwise same (take n xs) (take n ys)) (option_eq same (slice_get xs n) (slice_get ys n))

passes_step : {X : Type 0} (test : X → Bool) (x : X) (xs : List X) (d : X) (n : ℕ) (b : Bool) → test x ≡ b → (b || list_any test xs) ≡ true → (list_any test xs ≡ true → test (get_or xs n d) ≡ true)
    → test (get_or (x ∷ xs) (cond (not b) (1 + n) 0) d) ≡ true
passes_step test x xs d n true is some later = is
passes_step test x xs d n false is some later =
    let e : 1 + n ≡ suc n = omega arith in ap (λ k. test (get_or (x ∷ xs) k d)) e ∙ later some

-- the first that passes a test passes it
first_passes : {X : Type 0} (test : X → Bool) (xs : List X) (d : X) → list_any test xs ≡ true → test (get_or xs (position_or_len test xs) d) ≡ true
first_passes test [] d some = absurd (false≢true some)
first_passes test (x ∷ xs) d some = passes_step test x xs d (position_or_len test xs) (test x) refl some (first_passes test xs d)

-- members that are the same are so to the same members
pub same_test : {X : Type 0} {same : X → X → Bool} (laws : IsEquivalence same) (x y : X) → same x y ≡ true → same x ≡ same y
same_test laws x y h = fun_ext (λ z. laws.congr x y z h)

module _ {X : Type 0} {same : X → X → Bool} (laws : IsEquivalence same) (xs : List X) where
  first_cases : (x y : X) → list_any (same x) xs ≡ true → list_any (same y) xs ≡ true → (b : Bool) → same x y ≡ b → b ≡ nat_eq (position_or_len (same x) xs) (position_or_len (same y) xs)
  first_cases x y here there true is =
      sym (eq-eqb (position_or_len (same x) xs) (position_or_len (same y) xs) (ap (λ test. position_or_len test xs) (same_test laws x y is)))
  first_cases x y here there false is =
      let i = position_or_len (same x) xs in
      let z = get_or xs i x in
      let one : same x z ≡ true = first_passes (same x) xs x here in
      sym (ne_eqb i (position_or_len (same y) xs) (λ e.
      let other : same y z ≡ true = ap (λ k. same y (get_or xs k x)) e ∙ first_passes (same y) xs x there in
      false≢true (sym is ∙ laws.congr x z y one ∙ laws.symm z y ∙ other)))

  -- members are the same where the first ones that are the same as each are at one index
  pub first-same : (x y : X) → list_any (same x) xs ≡ true → list_any (same y) xs ≡ true → nat_eq (position_or_len (same x) xs) (position_or_len (same y) xs) ≡ same x y
  first-same x y here there = sym (first_cases x y here there (same x y) refl)

  -- each member is the same as some member
  pub members_found : All (λ x. list_any (same x) xs ≡ true) xs
  members_found = λ k d low. list_any-from_Contains laws (get_or xs k d) xs (All-contains_itself xs k d low)

module _ {X K : Type 0} (G : X → Type 0) (f : X → K) (eq : K → K → Bool) (same : X → X → Bool) (agree : (x y : X) → G x → G y → eq (f x) (f y) ≡ same x y) where
  first-among : (x : X) → G x → (xs : List X) → All G xs → position_or_len (eq (f x)) (map f xs) ≡ position_or_len (same x) xs
  first-among x has [] all = refl
  first-among x has (y ∷ ys) all =
      λ k. cond (not (agree x y has (All-head G y ys all) k)) (1 + first-among x has ys (All-tail G y ys all) k) 0

  firsts-each : (ys : List X) → All G ys → (xs : List X) → All G xs → map (λ k. position_or_len (eq k) (map f ys)) (map f xs) ≡ map (λ x. position_or_len (same x) ys) xs
  firsts-each ys here [] all = refl
  firsts-each ys here (x ∷ xs) all = λ k. first-among x (All-head G x xs all) ys here k ∷ firsts-each ys here xs (All-tail G x xs all) k

  -- the first ones that are the same, where a test of the view agrees with a test of the members
  pub firsts-among : (xs : List X) → All G xs → map (λ k. position_or_len (eq k) (map f xs)) (map f xs) ≡ map (λ x. position_or_len (same x) xs) xs
  firsts-among xs all = firsts-each xs all xs all

  -- how many are the same
  pub counts-among : (x : X) → G x → (xs : List X) → All G xs → count_by (eq (f x)) (map f xs) ≡ count_by (same x) xs
  counts-among x has [] all = refl
  counts-among x has (y ∷ ys) all =
      sum_by-cons (λ k. cond (eq (f x) k) 1 0) (f y) (map f ys)
      ∙ (λ k. cond (agree x y has (All-head G y ys all) k) 1 0 + counts-among x has ys (All-tail G y ys all) k)
      ∙ sym (sum_by-cons (λ z. cond (same x z) 1 0) y ys)

-- as many members are the same as there are with the same first one
pub sizes : {X : Type 0} {same : X → X → Bool} (laws : IsEquivalence same) (xs : List X) (x : X) → list_any (same x) xs ≡ true
    → count_by (nat_eq (position_or_len (same x) xs)) (map (λ y. position_or_len (same y) xs) xs) ≡ count_by (same x) xs
sizes {same = same} laws xs x here =
    counts-among (λ y. list_any (same y) xs ≡ true) (λ y. position_or_len (same y) xs) nat_eq same (first-same laws xs) x here xs (members_found laws xs)

any_step : (b a : Bool) (n : ℕ) → a ≡ nat_lt 0 n → (b || a) ≡ nat_lt 0 (cond b 1 0 + n)
any_step true a n h = sym (lt-ltb 0 (1 + n) (omega arith))
any_step false a n h =
    let e : n ≡ 0 + n = omega arith in h ∙ ap (nat_lt 0) e

-- a test finds one where as many as one pass it
pub any_count : {X : Type 0} (test : X → Bool) (xs : List X) → list_any test xs ≡ nat_lt 0 (count_by test xs)
any_count test [] = refl
any_count test (x ∷ xs) =
    any_step (test x) (list_any test xs) (count_by test xs) (any_count test xs) ∙ ap (nat_lt 0) (sym (sum_by-cons (λ y. cond (test y) 1 0) x xs))

-- fewer pass a test than another number where some of the others do
pub some_more : (own others : ℕ) (b : Bool) → nat_lt 0 others ≡ b → b ≡ nat_lt own (others + own)
some_more own others true h = sym (lt-ltb own (others + own) (omega (arith, ltb-true 0 others h)))
some_more own others false h = sym (le-ltb own (others + own) (omega (arith, ltb-false 0 others h)))

apart_step : {X : Type 0} (w : X → ℕ) (b : Bool) (x : X) (all : ℕ) (left own : List X) → all ≡ sum_by w left + sum_by w own
    → w x + all ≡ sum_by w (cond (not b) (x ∷ left) left) + sum_by w (cond b (x ∷ own) own)
apart_step w true x all left own h =
    let whole : w x + all ≡ sum_by w left + sum_by w (x ∷ own) = omega (arith, sum_by-cons w x own, h) in whole
apart_step w false x all left own h =
    let whole : w x + all ≡ sum_by w (x ∷ left) + sum_by w own = omega (arith, sum_by-cons w x left, h) in whole

-- what members weigh is what those weigh that do not pass a test, and those that do
pub weigh_apart : {X : Type 0} (t : X → Bool) (w : X → ℕ) (xs : List X) → sum_by w xs ≡ sum_by w (filter (λ x. not (t x)) xs) + sum_by w (filter t xs)
weigh_apart t w [] =
    let none : 0 ≡ 0 + 0 = omega arith in none
weigh_apart t w (x ∷ xs) = sum_by-cons w x xs ∙ apart_step w (t x) x (sum_by w xs) (filter (λ y. not (t y)) xs) (filter t xs) (weigh_apart t w xs)

-- some that do not pass one test pass another one where more pass it in all than of those that pass the first
pub apart_some : {X : Type 0} (t test : X → Bool) (xs : List X) → list_any test (filter (λ x. not (t x)) xs) ≡ nat_lt (count_by test (filter t xs)) (count_by test xs)
apart_some t test xs =
    let others = count_by test (filter (λ x. not (t x)) xs) in
    let own = count_by test (filter t xs) in
    any_count test (filter (λ x. not (t x)) xs) ∙ some_more own others (nat_lt 0 others) refl ∙ ap (nat_lt own) (sym (weigh_apart t (λ y. cond (test y) 1 0) xs))

lt_more : (m n : ℕ) (b : Bool) → nat_lt m n ≡ b → b ≡ nat_lt (m + 1) (n + 1)
lt_more m n true h = sym (lt-ltb (m + 1) (n + 1) (omega (arith, ltb-true m n h)))
lt_more m n false h = sym (le-ltb (m + 1) (n + 1) (omega (arith, ltb-false m n h)))

module _ {X : Type 0} (index : X → ℕ) where
  -- all members but the one at an index
  abbrev pub but_at : ℕ → List X → List X
  but_at p xs = filter (λ o. not (nat_eq (index o) p)) xs

  others_all : (p a : ℕ) (xs : List X) → p < a → map index xs ≡ range_with_len a (length xs) → but_at p xs ≡ xs
  others_all p a [] low is = refl
  others_all p a (x ∷ xs) low is =
      let here : index x ≡ a = ap (λ ns. get_or ns 0 a) is in
      let rest : map index xs ≡ range_with_len (a + 1) (length xs) = ap (drop 1) is in
      let apart : nat_eq (index x) p ≡ false = ne_eqb (index x) p (λ e. omega (arith, e, here, low)) in
      (λ k. cond (not (apart k)) (x ∷ but_at p xs) (but_at p xs)) ∙ ap (λ ys. x ∷ ys) (others_all p (a + 1) xs (omega (arith, low)) rest)

  -- what all members weigh is what the others weigh, and one
  weigh_from : (w : X → ℕ) (a i : ℕ) (xs : List X) (d : X) → map index xs ≡ range_with_len a (length xs) → i < length xs → sum_by w xs ≡ sum_by w (but_at (a + i) xs) + w (get_or xs i d)
  weigh_from w a i [] d is low = absurd (omega (arith, low))
  weigh_from w a zero (x ∷ xs) d is low =
      let here : index x ≡ a = ap (λ ns. get_or ns 0 a) is in
      let rest : map index xs ≡ range_with_len (a + 1) (length xs) = ap (drop 1) is in
      let own : index x ≡ a + 0 = omega (arith, here) in
      let same : nat_eq (index x) (a + 0) ≡ true = eq-eqb (index x) (a + 0) own in
      let all : but_at (a + 0) xs ≡ xs = others_all (a + 0) (a + 1) xs (omega arith) rest in
      let left : sum_by w (cond (not (nat_eq (index x) (a + 0))) (x ∷ but_at (a + 0) xs) (but_at (a + 0) xs)) ≡ sum_by w xs = (λ k. sum_by w (cond (not (same k)) (x ∷ but_at (a + 0) xs) (but_at (a + 0) xs))) ∙ ap (sum_by w) all in
      let whole : sum_by w (x ∷ xs) ≡ sum_by w xs + w x = omega (arith, sum_by-cons w x xs) in
      whole ∙ ap (λ n. n + w x) (sym left)
  weigh_from w a (suc i) (x ∷ xs) d is low =
      let here : index x ≡ a = ap (λ ns. get_or ns 0 a) is in
      let rest : map index xs ≡ range_with_len (a + 1) (length xs) = ap (drop 1) is in
      let apart : nat_eq (index x) (a + suc i) ≡ false = ne_eqb (index x) (a + suc i) (λ e. omega (arith, e, here)) in
      let shift : (a + 1) + i ≡ a + suc i = omega arith in
      let others : List X = but_at (a + suc i) xs in
      let before : sum_by w xs ≡ sum_by w others + w (get_or xs i d) =
      weigh_from w (a + 1) i xs d rest (omega (arith, low)) ∙ ap (λ p. sum_by w (but_at p xs) + w (get_or xs i d)) shift in
      let left : sum_by w (cond (not (nat_eq (index x) (a + suc i))) (x ∷ others) others) ≡ w x + sum_by w others = (λ k. sum_by w (cond (not (apart k)) (x ∷ others) others)) ∙ sum_by-cons w x others in
      let whole : sum_by w (x ∷ xs) ≡ (w x + sum_by w others) + w (get_or xs i d) = omega (arith, sum_by-cons w x xs, before) in
      whole ∙ ap (λ n. n + w (get_or xs i d)) (sym left)

  at_index : (xs : List X) (i : ℕ) (x : X) → map index xs ≡ range_with_len 0 (length xs) → i < length xs → get_or xs i x ≡ x → index x ≡ 0 + i
  at_index xs i x is low at =
      ap index (sym at) ∙ sym (get_or-map index xs i x 0 low) ∙ ap (λ ns. get_or ns i 0) is ∙ get_or-range_with_len 0 (length xs) i 0 low

  pub weigh_others : (w : X → ℕ) (xs : List X) (i : ℕ) (x : X) → map index xs ≡ range_with_len 0 (length xs) → i < length xs → get_or xs i x ≡ x → sum_by w xs ≡ sum_by w (but_at (index x) xs) + w x
  weigh_others w xs i x is low at =
      weigh_from w 0 i xs x is low ∙ (λ k. sum_by w (but_at (sym (at_index xs i x is low at) k) xs) + w (at k))

  -- another one passes a test that a member passes where more than one pass it
  pub another : (test : X → Bool) (xs : List X) (i : ℕ) (x : X) → map index xs ≡ range_with_len 0 (length xs) → i < length xs → get_or xs i x ≡ x → test x ≡ true
      → list_any test (but_at (index x) xs) ≡ nat_lt 1 (count_by test xs)
  another test xs i x is low at own =
      let others = count_by test (but_at (index x) xs) in
      any_count test (but_at (index x) xs)
      ∙ lt_more 0 others (nat_lt 0 others) refl
      ∙ ap (nat_lt 1) (sym (weigh_others (λ y. cond (test y) 1 0) xs i x is low at ∙ ap (λ b. others + cond b 1 0) own))
