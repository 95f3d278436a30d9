-- The parts of the numbers below a bound, where going together is an equivalence: these are found, and there is no other list of them.
use Rattle.std.proofs.Common.{◌≡◌, ◌↔◌, ℕ, ◌<◌, Bool, true, List, [], ◌∷◌, length, map, get_or, filter, count_by, slice_index, nat_eq, All, Contains, refl, sym, ap, subst, ◌∙◌, arith}
use Rattle.std.proofs.Math.Path.{fun_ext}
use Rattle.std.specs.Cmp.{IsEquivalence}
use Rattle.std.specs.List.{range_with_len}
use Rattle.std.proofs.lemmas.Bool.{eq-eqb, eqb-true}
use Rattle.std.proofs.lemmas.List.{get_or-map, length-map}
use Rattle.std.proofs.lemmas.List.Elements.{All-head, All-map, All-tail, Contains-get_or}
use Rattle.std.proofs.lemmas.List.Kept.{AllPairs-from_increasing, IsStrictlyIncreasing-filter}
use Rattle.std.proofs.lemmas.List.Sums.{length-filter}
use Rattle.std.proofs.lemmas.Simd.{map-map}
use Rattle.std.specs.List.Sorted.{IsStrictlyIncreasing}
use Rattle.driver_partitions.specs.Parts.{AreParts, IsPart, how_many}
use Rattle.driver_partitions.proofs.Rising.{Has, has_from, contains_from, same_rising, one_place, has_filter, filter_has, has_range, range_has, range_rises, nth_at, low_at, nth_found}

-- all numbers that go with one
abbrev pub part_with : (ℕ → ℕ → Bool) → ℕ → ℕ → List ℕ
part_with goes bound i = filter (goes i) (range_with_len 0 bound)

-- whether n numbers that go with one are before it
abbrev pub is_nth : (ℕ → ℕ → Bool) → ℕ → ℕ → Bool
is_nth goes n k = nat_eq (count_by (goes k) (range_with_len 0 k)) n

-- the numbers before which n others go with them
abbrev pub nths : (ℕ → ℕ → Bool) → ℕ → ℕ → List ℕ
nths goes bound n = filter (is_nth goes n) (range_with_len 0 bound)

-- the parts of more than n numbers
abbrev pub parted : (ℕ → ℕ → Bool) → ℕ → ℕ → List (List ℕ)
parted goes bound n = map (part_with goes bound) (nths goes bound n)

-- the number at n of each part
abbrev numbers_at : ℕ → List (List ℕ) → List ℕ
numbers_at n ps = map (λ p. slice_index p n) ps

-- no number stands in two parts
pub apart : (goes : ℕ → ℕ → Bool) (bound n : ℕ) (ps : List (List ℕ)) → AreParts goes bound n ps → (k m i : ℕ) → k < length ps → m < length ps
    → Contains (get_or ps k []) i → Contains (get_or ps m []) i → k ≡ m
apart goes bound n ps are k m i low high in_one in_other =
    let p = get_or ps k [] in
    let q = get_or ps m [] in
    let one = are.each k [] low in
    let other = are.each m [] high in
    let same : p ≡ q = same_rising p q (AllPairs-from_increasing p one.rises) (AllPairs-from_increasing q other.rises)
    (λ j h. has_from q j ((other.whole i j in_other).1 ((one.whole i j in_one).0 (contains_from p j h))))
    (λ j h. has_from p j ((one.whole i j in_one).1 ((other.whole i j in_other).0 (contains_from q j h)))) in
    let long = length-map ps (λ p. slice_index p n) in
    one_place (numbers_at n ps) (AllPairs-from_increasing (numbers_at n ps) are.ordered) k m (omega (arith, low, long)) (omega (arith, high, long))
    (get_or-map (λ p. slice_index p n) ps k [] 0 low ∙ ap (λ p. slice_index p n) same ∙ sym (get_or-map (λ p. slice_index p n) ps m [] 0 high))

map_same : {X : Type 0} (f : X → X) (xs : List X) → All (λ x. f x ≡ x) xs → map f xs ≡ xs
map_same f [] h = refl
map_same f (x ∷ xs) h =
    let first : f x ≡ x = All-head (λ y. f y ≡ y) x xs h in
    let rest : map f xs ≡ xs = map_same f xs (All-tail (λ y. f y ≡ y) x xs h) in
    λ k. first k ∷ rest k

module _ (goes : ℕ → ℕ → Bool) (equivalence : IsEquivalence goes) (bound n : ℕ) where
  within : (p : ℕ → Bool) (k : ℕ) → Has (filter p (range_with_len 0 bound)) k → (k < bound) × (p k ≡ true)
  within p k h =
      let f = has_filter p (range_with_len 0 bound) k h in
      let r = has_range 0 bound k f.0 in
      (omega (arith, r.1), f.1)

  among : (p : ℕ → Bool) (k : ℕ) → k < bound → p k ≡ true → Has (filter p (range_with_len 0 bound)) k
  among p k low pass = filter_has p (range_with_len 0 bound) k (range_has 0 bound k (omega arith) (omega (arith, low))) pass

  part_is : (i : ℕ) → IsPart goes bound (part_with goes bound i)
  part_is i = record { rises = IsStrictlyIncreasing-filter (goes i) (range_with_len 0 bound) (range_rises bound); whole = all }
    where
      all : (k j : ℕ) → Contains (part_with goes bound i) k
          → Contains (part_with goes bound i) j ↔ ((j < bound) × (goes k j ≡ true))
      all k j has =
          let of_k = within (goes i) k (has_from (part_with goes bound i) k has) in
          let same : goes i j ≡ goes k j = equivalence.congr i k j of_k.1 in (
            λ h. let of_j = within (goes i) j (has_from (part_with goes bound i) j h) in (of_j.0, sym same ∙ of_j.1),
            λ h. contains_from (part_with goes bound i) j (among (goes i) j h.0 (same ∙ h.1)),
          )

  -- a part is all numbers that go with one of it
  one_part : (p : List ℕ) (k : ℕ) → IsPart goes bound p → Contains p k → p ≡ part_with goes bound k
  one_part p k is has =
      same_rising p (part_with goes bound k) (AllPairs-from_increasing p is.rises) (AllPairs-from_increasing (part_with goes bound k) (part_is k).rises)
      (λ j h. let w = (is.whole k j has).0 (contains_from p j h) in among (goes k) j w.0 w.1)
      (λ j h. let w = within (goes k) j h in has_from p j ((is.whole k j has).1 (w.0, w.1)))

  nth_is : (k : ℕ) → k < bound → is_nth goes n k ≡ true → slice_index (part_with goes bound k) n ≡ k
  nth_is k low nth = ap (λ m. get_or (part_with goes bound k) m 0) (sym (eqb-true (count_by (goes k) (range_with_len 0 k)) n nth)) ∙ nth_at (goes k) bound k low (equivalence.refl k)

  long_at : (k : ℕ) → k < bound → is_nth goes n k ≡ true → n < length (part_with goes bound k)
  long_at k low nth = omega (arith, low_at (goes k) bound k low (equivalence.refl k), eqb-true (count_by (goes k) (range_with_len 0 k)) n nth)

  nths_within : (m d : ℕ) → m < length (nths goes bound n) → (get_or (nths goes bound n) m d < bound) × (is_nth goes n (get_or (nths goes bound n) m d) ≡ true)
  nths_within m d low =
      let k = get_or (nths goes bound n) m d in
      within (is_nth goes n) k (has_from (nths goes bound n) k (Contains-get_or (nths goes bound n) m d low))

  in_order : map (λ p. slice_index p n) (parted goes bound n) ≡ nths goes bound n
  in_order =
      map-map (λ p. slice_index p n) (part_with goes bound) (nths goes bound n)
      ∙ map_same (λ k. slice_index (part_with goes bound k) n) (nths goes bound n)
      (λ m d low. let w = nths_within m d low in nth_is (get_or (nths goes bound n) m d) w.0 w.1)

  nths_rise : IsStrictlyIncreasing (nths goes bound n)
  nths_rise = IsStrictlyIncreasing-filter (is_nth goes n) (range_with_len 0 bound) (range_rises bound)

  -- of numbers with which more than n go, each stands in a part
  stands : (i : ℕ) → i < bound → n < how_many goes bound i
      → (m : ℕ) × (p : List ℕ) × (m < length (parted goes bound n)) × (get_or (parted goes bound n) m p ≡ p) × Contains p i
  stands i low many =
      let found = nth_found (goes i) bound n many in
      let k = found.0 in
      let one : goes k ≡ goes i = fun_ext (λ j. sym (equivalence.congr i k j found.2)) in
      let nth : is_nth goes n k ≡ true = eq-eqb (count_by (goes k) (range_with_len 0 k)) n (ap (λ q. count_by q (range_with_len 0 k)) one ∙ found.3) in
      let at = contains_from (nths goes bound n) k (among (is_nth goes n) k found.1 nth) in
      let back : goes k i ≡ true = equivalence.symm k i ∙ found.2 in (
        at.0,
        part_with goes bound k,
        omega (arith, at.1, length-map (nths goes bound n) (part_with goes bound)),
        get_or-map (part_with goes bound) (nths goes bound n) at.0 k (part_with goes bound k) at.1 ∙ ap (part_with goes bound) at.2,
        contains_from (part_with goes bound k) i (among (goes k) i low back),
      )

  -- the parts that are found are all parts
  pub are_parts : AreParts goes bound n (parted goes bound n)
  are_parts = record {
    each = All-map (IsPart goes bound) (part_with goes bound) (nths goes bound n) (λ m d low. part_is (get_or (nths goes bound n) m d));
    long = All-map (λ p. n < length p) (part_with goes bound) (nths goes bound n) (λ m d low. let w = nths_within m d low in long_at (get_or (nths goes bound n) m d) w.0 w.1);
    complete = stands;
    ordered = subst IsStrictlyIncreasing (sym in_order) nths_rise;
  }

  -- the number at n of a part
  module _ (p : List ℕ) (is : IsPart goes bound p) (long : n < length p) where
    abbrev own : ℕ
    own = slice_index p n

    own_in : Contains p own
    own_in = Contains-get_or p n 0 long

    own_part : p ≡ part_with goes bound own
    own_part = one_part p own is own_in

    own_low : own < bound
    own_low = ((is.whole own own own_in).0 own_in).0

    own_nth : is_nth goes n own ≡ true
    own_nth =
        let before = count_by (goes own) (range_with_len 0 own) in
        let all = part_with goes bound own in
        let at : get_or all n 0 ≡ own = ap (λ l. get_or l n 0) (sym own_part) in
        let low : n < length all = subst (λ l. n < length l) own_part long in
        let of_own = equivalence.refl own in
        eq-eqb before n (one_place all (AllPairs-from_increasing all (part_is own).rises) before n (low_at (goes own) bound own own_low of_own) low (nth_at (goes own) bound own own_low of_own ∙ sym at))

  -- all parts are those that are found
  pub unique : (ps : List (List ℕ)) → AreParts goes bound n ps → ps ≡ parted goes bound n
  unique ps are =
      sym (map_same (λ p. part_with goes bound (slice_index p n)) ps (λ m d low. sym (own_part (get_or ps m d) (are.each m d low) (are.long m d low))))
      ∙ sym (map-map (part_with goes bound) (λ p. slice_index p n) ps)
      ∙ ap (map (part_with goes bound)) (same_rising (numbers_at n ps) (nths goes bound n) (AllPairs-from_increasing (numbers_at n ps) are.ordered) (AllPairs-from_increasing (nths goes bound n) nths_rise) to from)
    where
      to : (k : ℕ) → Has (numbers_at n ps) k → Has (nths goes bound n) k
      to k h =
          let c = contains_from (numbers_at n ps) k h in
          let low : c.0 < length ps = omega (arith, c.1, length-map ps (λ p. slice_index p n)) in
          let p = get_or ps c.0 [] in
          let e : slice_index p n ≡ k = sym (get_or-map (λ p. slice_index p n) ps c.0 [] k low) ∙ c.2 in
          let is = are.each c.0 [] low in
          let long = are.long c.0 [] low in
          subst (Has (nths goes bound n)) e (among (is_nth goes n) (slice_index p n) (own_low p is long) (own_nth p is long))

      from : (k : ℕ) → Has (nths goes bound n) k → Has (numbers_at n ps) k
      from k h =
          let w = within (is_nth goes n) k h in
          let many : n < how_many goes bound k = omega (arith, long_at k w.0 w.1, length-filter (goes k) (range_with_len 0 bound)) in
          let found = are.complete k w.0 many in
          let is : IsPart goes bound found.1 = subst (IsPart goes bound) found.3 (are.each found.0 found.1 found.2) in
          let same : found.1 ≡ part_with goes bound k = one_part found.1 k is found.4 in
          let e : slice_index found.1 n ≡ k = ap (λ p. slice_index p n) same ∙ nth_is k w.0 w.1 in
          let low : found.0 < length (numbers_at n ps) = omega (arith, found.2, length-map ps (λ p. slice_index p n)) in
          has_from (numbers_at n ps) k
          (found.0, low, get_or-map (λ p. slice_index p n) ps found.0 found.1 k found.2 ∙ ap (λ p. slice_index p n) found.3 ∙ e)
