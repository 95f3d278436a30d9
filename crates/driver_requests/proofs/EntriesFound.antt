-- Entries that are found by their hashes and keys.
use Rattle.std.proofs.Common.{◌≡◌, ◌⊎◌, inl, inr, ℕ, ◌+◌, ◌<◌, ◌≤◌, Bool, true, false, true≢false, not, cond, ◌||◌, ◌&&◌, nat_eq, List, [], ◌∷◌, ◌++◌, length, get_or, Option, Some, None, Ordering, Less, Equal, Greater, nat_cmp, is_eq, bytes_eq, append-nil, lt-ltb, le-ltb, refl, sym, ap, subst, ◌∙◌, arith}
use Rattle.std.specs.Borrow.{Bor}
use Rattle.std.specs.BTreeMap.{BTreeMap, get}
use Rattle.std.specs.Cmp.Lexicographic.{bytes_decides, slice_cmp}
use Rattle.std.specs.Cow.{cow_str_bytes}
use Rattle.std.specs.Hash.{HashWrites}
use Rattle.std.specs.List.{list_any, position_or_len}
use Rattle.std.specs.Option.{unwrap_or}
use Rattle.std.specs.Ordering.{MatchOrdering, ordering_then}
use Rattle.std.proofs.Math.Path.{fun_ext}
use Rattle.std.proofs.lemmas.Bool.{and_from, and_parts, cases_lt, eq-eqb, eqb-true, ne_eqb}
use Rattle.std.proofs.lemmas.Cmp.{ranked}
use Rattle.std.proofs.lemmas.List.{get_or-map, length-map}
use Rattle.std.proofs.lemmas.List.Folds.{list_any-append}
use Rattle.std.proofs.lemmas.List.Sums.{fails_before_first, passes_at_first, prefix_len-le-length}
use Rattle.std.proofs.lemmas.Map.Text.{is_eq-slice_cmp}
use Rattle.laws.specs.Borrowed.{borrowed}
use Rattle.rendering_entries.specs.Answers.{Answers}
use Rattle.driver_requests.specs.EntryKeys.{IsIndex, has_key, order}
use Rattle.hashes.specs.Hashes.{hash_of}
use Rattle.driver_requests.specs.Indices.{index_in}
use Rattle.driver_requests.specs.declared.hashed_key.HashedKey.{HashedKey}
use Rattle.driver_requests.proofs.IndicesFound.{any_position, at_first, index_past, index_stays, others_found}

later_step : (p r : Bool) (m n : ℕ) → (p ≡ true → r ≡ true) → m ≤ n → cond (not r) (1 + m) 0 ≤ cond (not p) (1 + n) 0
later_step p true m n passes ih = omega arith
later_step true false m n passes ih = absurd (true≢false (sym (passes refl)))
later_step false false m n passes ih = omega (arith, ih)

-- where what passes one test passes another, the first that passes that one is no later
pub position_later : {T : Type 0} (p r : T → Bool) → ((x : T) → p x ≡ true → r x ≡ true) → (es : List T) → position_or_len r es ≤ position_or_len p es
position_later p r passes [] = omega arith
position_later p r passes (e ∷ es) = later_step (p e) (r e) _ _ (passes e) (position_later p r passes es)

any_by : (p r a b : Bool) → (p ≡ true → r ≡ true) → (a ≡ true → b ≡ true) → (p || a) ≡ true → (r || b) ≡ true
any_by p true a b passes rest h = refl
any_by true false a b passes rest h = absurd (true≢false (sym (passes refl)))
any_by false false a b passes rest h = rest h

-- where one passes the one test, one passes the other
pub any_passes : {T : Type 0} (p r : T → Bool) → ((x : T) → p x ≡ true → r x ≡ true) → (es : List T) → list_any p es ≡ true → list_any r es ≡ true
any_passes p r passes [] h = h
any_passes p r passes (e ∷ es) h = any_by (p e) (r e) (list_any p es) (list_any r es) (passes e) (any_passes p r passes es) h

none_passes : {T : Type 0} (p : T → Bool) (es : List T) → list_any p es ≡ false → position_or_len p es ≡ length es
none_passes p es h = ap (position_or_len p) (sym (append-nil es)) ∙ index_past p es [] h ∙ omega arith

found_or : {T : Type 0} (p : T → Bool) (es : List T) (b : Bool) → list_any p es ≡ b → unwrap_or (cond b (Some (position_or_len p es)) None) (length es) ≡ position_or_len p es
found_or p es true h = refl
found_or p es false h = sym (none_passes p es h)

last_by : {T : Type 0} (p : T → Bool) (es : List T) (e : T) (b : Bool) → p e ≡ true → list_any p es ≡ b → Some (position_or_len p es) ≡ index_in p (es ++ e ∷ [])
last_by p es e true passes h = rw (list_any-append p es (e ∷ []), h, index_stays p es (e ∷ []) h) refl
last_by p es e false passes h =
    let last : position_or_len p (es ++ e ∷ []) ≡ length es = index_past p es (e ∷ []) h ∙ at_first (p e) (length es) passes in
    rw (list_any-append p es (e ∷ []), h, passes, last, none_passes p es h) refl

is_same_number : (m n : ℕ) (o : Ordering) → MatchOrdering o (m < n) (m ≡ n) (n < m) → is_eq o ≡ nat_eq m n
is_same_number m n Less less = sym (ne_eqb m n (λ same. omega (arith, less, same)))
is_same_number m n Equal same = sym (eq-eqb m n same)
is_same_number m n Greater less = sym (ne_eqb m n (λ same. omega (arith, less, same)))

is_eq_then : (o p : Ordering) → is_eq (ordering_then o p) ≡ (is_eq o && is_eq p)
is_eq_then Less p = refl
is_eq_then Equal p = refl
is_eq_then Greater p = refl

-- what compares equal has the same hash and the same key
is_same_key : (k q : HashedKey) → is_eq (order k q) ≡ (nat_eq k.hash q.hash && bytes_eq (cow_str_bytes k.key) (cow_str_bytes q.key))
is_same_key k q =
    is_eq_then (nat_cmp k.hash q.hash) (slice_cmp nat_cmp (cow_str_bytes k.key) (cow_str_bytes q.key))
    ∙ (λ i. is_same_number k.hash q.hash (nat_cmp k.hash q.hash) (ranked k.hash q.hash (nat_cmp k.hash q.hash) refl) i && is_eq-slice_cmp (cow_str_bytes k.key) (cow_str_bytes q.key) i)

module _ {T : Type 0} (fed : T → HashWrites) (answers : T → Answers) (e : T) (k : HashedKey) (hash : k.hash ≡ hash_of (fed e)) (key : cow_str_bytes k.key ≡ (answers e).key) where
  -- a hash and key that compare equal to those of an entry are its own
  own_key : (q : HashedKey) → is_eq (order k q) ≡ has_key fed answers q e
  own_key q = is_same_key k q ∙ (λ i. nat_eq (hash i) q.hash && bytes_eq (key i) (cow_str_bytes q.key))

  has_own : (x : T) → fed x ≡ fed e → answers x ≡ answers e → has_key fed answers k x ≡ true
  has_own x same alike =
      and_from _ _ (eq-eqb (hash_of (fed x)) k.hash (ap hash_of same ∙ sym hash))
      ((bytes_decides (answers x).key (cow_str_bytes k.key)).1 (ap (λ (a : Answers). a.key) alike ∙ sym key))

  same_test : (q : HashedKey) → has_key fed answers q e ≡ true → has_key fed answers q ≡ has_key fed answers k
  same_test q h =
      let parts = and_parts _ _ h in
      let hashes : q.hash ≡ k.hash = sym (eqb-true (hash_of (fed e)) q.hash parts.0) ∙ sym hash in
      let keys : cow_str_bytes q.key ≡ cow_str_bytes k.key = sym ((bytes_decides (answers e).key (cow_str_bytes q.key)).0 parts.1) ∙ sym key in
      fun_ext (λ x i. nat_eq (hash_of (fed x)) (hashes i) && bytes_eq (answers x).key (keys i))

  -- entries that are equal to it have them
  pub equal_has : {eq : T → T → Bool} → ((x y : T) → eq x y ≡ true → fed x ≡ fed y) → ((x y : T) → eq x y ≡ true → answers x ≡ answers y) → (x : T) → eq e x ≡ true → has_key fed answers k x ≡ true
  equal_has respects alike x h = has_own x (sym (respects e x h)) (sym (alike e x h))

  module _ (old : BTreeMap HashedKey ℕ) (first : ℕ) (es : List T) (is : first ≡ unwrap_or (get order old k) (length es)) (before : IsIndex (has_key fed answers) old es) where
    -- the index under the hash and the key of an entry
    first_is : first ≡ position_or_len (has_key fed answers k) es
    first_is = is ∙ ap (λ o. unwrap_or o (length es)) (before k) ∙ found_or (has_key fed answers k) es (list_any (has_key fed answers k) es) refl

    -- no entry before it is equal
    pub first_no_later : {eq : T → T → Bool} → ((x y : T) → eq x y ≡ true → fed x ≡ fed y) → ((x y : T) → eq x y ≡ true → answers x ≡ answers y) → first ≤ position_or_len (eq e) es
    first_no_later {eq} respects alike = subst (λ n. n ≤ position_or_len (eq e) es) (sym first_is) (position_later (eq e) (has_key fed answers k) (equal_has respects alike) es)

    module _ (new : BTreeMap HashedKey ℕ) (after : (q : HashedKey) → get order new q ≡ cond (is_eq (order k q)) (Some first) (get order old q)) where
      -- a new entry
      pub put_new : IsIndex (has_key fed answers) new (es ++ e ∷ [])
      put_new q = after q ∙ (λ i. cond (own_key q i) (Some first) (before q i)) ∙ by (has_key fed answers q e) refl
        where
          by : (b : Bool) → has_key fed answers q e ≡ b → cond b (Some first) (index_in (has_key fed answers q) es) ≡ index_in (has_key fed answers q) (es ++ e ∷ [])
          by true h =
              ap Some (first_is ∙ ap (λ p. position_or_len p es) (sym (same_test q h))) ∙ last_by (has_key fed answers q) es e (list_any (has_key fed answers q) es) h refl
          by false h = others_found (has_key fed answers q) es e (list_any (has_key fed answers q) es) h refl

      -- an entry that is there
      pub put_old : {eq : T → T → Bool} → ((x y : T) → eq x y ≡ true → fed x ≡ fed y) → ((x y : T) → eq x y ≡ true → answers x ≡ answers y) → list_any (eq e) es ≡ true → IsIndex (has_key fed answers) new es
      put_old {eq} respects alike there q = after q ∙ (λ i. cond (own_key q i) (Some first) (before q i)) ∙ by (has_key fed answers q e) refl
        where
          has : list_any (has_key fed answers k) es ≡ true
          has = any_passes (eq e) (has_key fed answers k) (equal_has respects alike) es there

          by : (b : Bool) → has_key fed answers q e ≡ b → cond b (Some first) (index_in (has_key fed answers q) es) ≡ index_in (has_key fed answers q) es
          by true h =
              ap Some first_is ∙ (λ i. cond (sym has i) (Some (position_or_len (has_key fed answers k) es)) None) ∙ ap (λ p. index_in p es) (sym (same_test q h))
          by false h = refl

module _ {T : Type 0} (p : T → Bool) (items : List (Bor T)) (i : ℕ) where
  many : length (borrowed items) ≡ length items
  many = length-map items (λ (b : Bor T). b.now)

  at : (x : Bor T) → i < length items → x ≡ get_or items i x → get_or (borrowed items) i x.now ≡ x.now
  at x low is = get_or-map (λ (b : Bor T). b.now) items i x x.now low ∙ ap (λ (b : Bor T). b.now) (sym is)

  -- one that does not pass is not the first that passes
  pub first_past : (x : Bor T) → i < length items → x ≡ get_or items i x → p x.now ≡ false → i ≤ position_or_len p (borrowed items) → i + 1 ≤ position_or_len p (borrowed items)
  first_past x low is fails le = by (cases_lt i (position_or_len p (borrowed items)))
    where
      by : (i < position_or_len p (borrowed items)) ⊎ (position_or_len p (borrowed items) ≤ i) → i + 1 ≤ position_or_len p (borrowed items)
      by (inl less) = omega (arith, less)
      by (inr more) =
          let same : i ≡ position_or_len p (borrowed items) = omega (arith, le, more) in
          let all : length (borrowed items) ≡ length items = many in
          let below : position_or_len p (borrowed items) < length (borrowed items) = omega (arith, low, same, all) in
          let passes = ap (λ j. p (get_or (borrowed items) j x.now)) same ∙ passes_at_first p (borrowed items) x.now below in
          absurd (true≢false (sym passes ∙ (ap p (at x low is) ∙ fails)))

  -- one that passes is, where none before it does
  pub first_here : (x : Bor T) → i < length items → x ≡ get_or items i x → p x.now ≡ true → i ≤ position_or_len p (borrowed items) → i ≡ position_or_len p (borrowed items)
  first_here x low is passes le = by (cases_lt i (position_or_len p (borrowed items)))
    where
      by : (i < position_or_len p (borrowed items)) ⊎ (position_or_len p (borrowed items) ≤ i) → i ≡ position_or_len p (borrowed items)
      by (inl less) = absurd (true≢false (sym passes ∙ (ap p (sym (at x low is)) ∙ fails_before_first p (borrowed items) i x.now less)))
      by (inr more) = omega (arith, le, more)

  -- after all there is none
  pub first_nowhere : length items ≤ i → i ≤ position_or_len p (borrowed items) → length items ≡ position_or_len p (borrowed items)
  first_nowhere over le =
      let all : length (borrowed items) ≡ length items = many in
      let most : position_or_len p (borrowed items) ≤ length (borrowed items) = prefix_len-le-length (λ x. not (p x)) (borrowed items) in
      omega (arith, over, le, all, most)

  -- one with an index below their number passes
  pub there : i ≡ position_or_len p (borrowed items) → i < length items → list_any p (borrowed items) ≡ true
  there is less =
      let all : length (borrowed items) ≡ length items = many in
      let below : position_or_len p (borrowed items) < length (borrowed items) = omega (arith, is, less, all) in
      any_position p (borrowed items) ∙ lt-ltb _ _ below

  -- where the index is not below their number, none passes
  pub nowhere : i ≡ position_or_len p (borrowed items) → length items ≤ i → list_any p (borrowed items) ≡ false
  nowhere is over =
      let all : length (borrowed items) ≡ length items = many in
      let most : length (borrowed items) ≤ position_or_len p (borrowed items) = omega (arith, is, over, all) in
      any_position p (borrowed items) ∙ le-ltb _ _ most

-- an index, and else how many entries are lent
pub lent_or : {T : Type 0} (items : List (Bor T)) (o : Option ℕ) (i n : ℕ) → i ≡ unwrap_or o n → n ≡ length items → i ≡ unwrap_or o (length (borrowed items))
lent_or items o i n is all = is ∙ ap (unwrap_or o) (all ∙ sym (length-map items (λ b. b.now)))
