-- The parts that are found by going over a list once.
use Rattle.std.proofs.Common.{◌≡◌, ◌↔◌, ℕ, zero, suc, ◌+◌, ◌<◌, Bool, true, false, true≢false, cond, not, ◌||◌, List, [], ◌∷◌, ◌++◌, append_assoc, length, map, take, drop, filter, flat_map, count_by, slice_get, nat_eq, Option, Some, None, is_some, refl, sym, ap, subst, ◌∙◌, arith}
use Rattle.std.specs.Cmp.{IsEquivalence, IsPartialEquivalence, equiv}
use Rattle.std.specs.List.{cons_option, enumerate_from, list_any, range_with_len}
use Rattle.std.proofs.lemmas.Bool.{eqb-true, ne_eqb, or_left, or_right}
use Rattle.std.proofs.lemmas.Cmp.{nat_eq_equiv}
use Rattle.std.proofs.lemmas.List.{drop_at, length-append, length_push, take_at}
use Rattle.std.proofs.lemmas.List.Elements.{filter-append, filter_map-append}
use Rattle.std.proofs.lemmas.List.Sums.{length-filter}
use Rattle.std.proofs.lemmas.Option.{slice_get_within}
use Rattle.driver_disambiguation.specs.Classes.{part_at, parts}
use Rattle.driver_blocks.specs.Blocks.{gathered, gathered_at}
use Rattle.driver_partitions.specs.Parts.{ArePartsOf, are_alike, go_together, members_at}
use Rattle.driver_partitions.proofs.Rising.{range-append}
use Rattle.driver_partitions.proofs.Parted.{part_with, is_nth, parted, are_parts, unique}

-- Members of lists that stand one behind the other.
get_before : {X : Type 0} (us vs : List X) (k : ℕ) (z : X) → slice_get us k ≡ Some z → slice_get (us ++ vs) k ≡ Some z
get_before [] vs k z e = absurd (true≢false (sym (ap is_some e)))
get_before (u ∷ us) vs zero z e = e
get_before (u ∷ us) vs (suc k) z e = get_before us vs k z e

get_after : {X : Type 0} (us vs : List X) (k : ℕ) → slice_get (us ++ vs) (length us + k) ≡ slice_get vs k
get_after [] vs k = let e : 0 + k ≡ k = omega arith in ap (slice_get vs) e
get_after (u ∷ us) vs k =
    let e : suc (length us) + k ≡ suc (length us + k) = omega arith in
    ap (slice_get (u ∷ us ++ vs)) e ∙ get_after us vs k

-- Indices go together as their members do.
module _ {X : Type 0} (same : X → X → Bool) (per : IsPartialEquivalence same) where
  alike_symm : (x y : Option X) → are_alike same x y ≡ are_alike same y x
  alike_symm (Some x) (Some y) = per.symm x y
  alike_symm (Some x) None = refl
  alike_symm None (Some y) = refl
  alike_symm None None = refl

  alike_trans : (x y z : Option X) → are_alike same x y ≡ true → are_alike same y z ≡ true → are_alike same x z ≡ true
  alike_trans (Some x) (Some y) (Some z) p q = per.trans x y z p q
  alike_trans (Some x) (Some y) None p q = q
  alike_trans (Some x) None z p q = absurd (true≢false (sym p))
  alike_trans None (Some y) z p q = absurd (true≢false (sym p))
  alike_trans None None z p q = absurd (true≢false (sym p))

  module _ (xs : List X) where
    together_trans : (i j k : ℕ) → go_together same xs i j ≡ true → go_together same xs j k ≡ true → go_together same xs i k ≡ true
    together_trans i j k p q = by_test (nat_eq i j) refl (nat_eq j k) refl p q
      where
        by_test : (a : Bool) → nat_eq i j ≡ a → (b : Bool) → nat_eq j k ≡ b → (a || are_alike same (slice_get xs i) (slice_get xs j)) ≡ true
            → (b || are_alike same (slice_get xs j) (slice_get xs k)) ≡ true → go_together same xs i k ≡ true
        by_test true e b f p q =
            ap (λ m. go_together same xs m k) (eqb-true i j e) ∙ ap (λ c. c || are_alike same (slice_get xs j) (slice_get xs k)) f ∙ q
        by_test false e true f p q =
            ap (go_together same xs i) (sym (eqb-true j k f)) ∙ ap (λ c. c || are_alike same (slice_get xs i) (slice_get xs j)) e ∙ p
        by_test false e false f p q = or_right (nat_eq i k) (are_alike same (slice_get xs i) (slice_get xs k)) (alike_trans (slice_get xs i) (slice_get xs j) (slice_get xs k) p q)

    pub together : IsEquivalence (go_together same xs)
    together = equiv
        (record { symm = λ i j. (λ t. nat_eq_equiv.symm i j t || alike_symm (slice_get xs i) (slice_get xs j) t); trans = together_trans })
        (λ i. or_left (nat_eq i i) (are_alike same (slice_get xs i) (slice_get xs i)) (nat_eq_equiv.refl i))

-- Indices of a part of a list that pass a test, where the members there pass another.
module _ {X : Type 0} (xs : List X) (p : ℕ → Bool) (q : X → Bool) where
  -- members stand in the list from a place on, and the tests agree there
  abbrev Fits : ℕ → List X → Type 0
  Fits start zs = (k : ℕ) (z : X) → slice_get zs k ≡ Some z → (slice_get xs (start + k) ≡ Some z) × (p (start + k) ≡ q z)

  fits_first : (start : ℕ) (z : X) (zs : List X) → Fits start (z ∷ zs) → (slice_get xs start ≡ Some z) × (p start ≡ q z)
  fits_first start z zs h =
      let none : start + 0 ≡ start = omega arith in
      subst (λ m. (slice_get xs m ≡ Some z) × (p m ≡ q z)) none (h 0 z refl)

  fits_rest : (start : ℕ) (z : X) (zs : List X) → Fits start (z ∷ zs) → Fits (start + 1) zs
  fits_rest start z zs h k y e =
      let more : start + suc k ≡ (start + 1) + k = omega arith in
      subst (λ m. (slice_get xs m ≡ Some y) × (p m ≡ q y)) more (h (suc k) y e)

  one_chosen : (b : Bool) (start : ℕ) (z : X) (is : List ℕ) (ys : List X) → slice_get xs start ≡ Some z → members_at xs is ≡ ys → members_at xs (cond b (start ∷ is) is) ≡ cond b (z ∷ ys) ys
  one_chosen true start z is ys at e = λ t. cons_option (at t) (e t)
  one_chosen false start z is ys at e = e

  chosen : (start : ℕ) (zs : List X) → Fits start zs → members_at xs (filter p (range_with_len start (length zs))) ≡ filter q zs
  chosen start [] h = refl
  chosen start (z ∷ zs) h =
      let first = fits_first start z zs h in
      one_chosen (p start) start z (filter p (range_with_len (start + 1) (length zs))) (filter q zs) first.0 (chosen (start + 1) zs (fits_rest start z zs h))
      ∙ ap (λ b. cond b (z ∷ filter q zs) (filter q zs)) first.1

  one_counted : (b : Bool) (start : ℕ) (z : X) (is : List ℕ) (ys : List X) → length is ≡ length ys → length (cond b (start ∷ is) is) ≡ length (cond b (z ∷ ys) ys)
  one_counted true start z is ys e = ap suc e
  one_counted false start z is ys e = e

  as_long : (start : ℕ) (zs : List X) → Fits start zs → length (filter p (range_with_len start (length zs))) ≡ length (filter q zs)
  as_long start [] h = refl
  as_long start (z ∷ zs) h =
      let first = fits_first start z zs h in
      one_counted (p start) start z (filter p (range_with_len (start + 1) (length zs))) (filter q zs) (as_long (start + 1) zs (fits_rest start z zs h))
      ∙ ap (λ b. length (cond b (z ∷ filter q zs) (filter q zs))) first.1

  counted : (start : ℕ) (zs : List X) → Fits start zs → count_by p (range_with_len start (length zs)) ≡ count_by q zs
  counted start zs h = sym (length-filter p (range_with_len start (length zs))) ∙ as_long start zs h ∙ length-filter q zs

-- what passes no test
none_passes : {X : Type 0} (q : X → Bool) (zs : List X) → list_any q zs ≡ false → filter q zs ≡ []
none_passes q [] e = refl
none_passes q (z ∷ zs) e = by_test (q z) e (none_passes q zs)
  where
    by_test : (b : Bool) → (b || list_any q zs) ≡ false → (list_any q zs ≡ false → filter q zs ≡ []) → cond b (z ∷ filter q zs) (filter q zs) ≡ []
    by_test true e rest = absurd (true≢false e)
    by_test false e rest = rest e

none_counted : {X : Type 0} (q : X → Bool) (zs : List X) → nat_eq (length (filter q zs)) 0 ≡ not (list_any q zs)
none_counted q [] = refl
none_counted q (z ∷ zs) = by_test (q z) (none_counted q zs)
  where
    by_test : (b : Bool) → nat_eq (length (filter q zs)) 0 ≡ not (list_any q zs) → nat_eq (length (cond b (z ∷ filter q zs) (filter q zs))) 0 ≡ not (b || list_any q zs)
    by_test true rest = ne_eqb (suc (length (filter q zs))) 0 (λ e. omega (arith, e))
    by_test false rest = rest

-- A member with those before it and those after it.
module _ {X : Type 0} (same : X → X → Bool) (xs earlier : List X) (y : X) (later : List X) (is : xs ≡ earlier ++ y ∷ later) where
  abbrev here : ℕ
  here = length earlier

  abbrev goes : ℕ → Bool
  goes = go_together same xs (length earlier)

  at_here : slice_get xs here ≡ Some y
  at_here =
      let none : here ≡ here + 0 = omega arith in
      (λ t. slice_get (is t) (none t)) ∙ get_after earlier (y ∷ later) 0

  apart_alike : (j : ℕ) (z : X) → slice_get xs j ≡ Some z → nat_eq here j ≡ false → goes j ≡ same y z
  apart_alike j z at apart = λ t. apart t || are_alike same (at_here t) (at t)

  fits_earlier : Fits xs goes (same y) 0 earlier
  fits_earlier k z e =
      let none : k ≡ 0 + k = omega arith in
      let at : slice_get xs k ≡ Some z = ap (λ l. slice_get l k) is ∙ get_before earlier (y ∷ later) k z e in
      let low : k < here = slice_get_within earlier k z e in
      let both : (slice_get xs k ≡ Some z) × (goes k ≡ same y z) = (at, apart_alike k z at (ne_eqb here k (λ s. omega (arith, low, s)))) in
      subst (λ m. (slice_get xs m ≡ Some z) × (goes m ≡ same y z)) none both

  fits_later : Fits xs goes (same y) (here + 1) later
  fits_later k z e =
      let there : here + suc k ≡ (here + 1) + k = omega arith in
      let at : slice_get xs (here + suc k) ≡ Some z = ap (λ l. slice_get l (here + suc k)) is ∙ get_after earlier (y ∷ later) (suc k) ∙ e in
      let both : (slice_get xs (here + suc k) ≡ Some z) × (goes (here + suc k) ≡ same y z) =
      (at, apart_alike (here + suc k) z at (ne_eqb here (here + suc k) (λ s. omega (arith, s)))) in
      subst (λ m. (slice_get xs m ≡ Some z) × (goes m ≡ same y z)) there both

  numbers_are : range_with_len 0 (length xs) ≡ range_with_len 0 here ++ here ∷ range_with_len (here + 1) (length later)
  numbers_are =
      let long : length xs ≡ here + suc (length later) = ap length is ∙ length-append earlier (y ∷ later) in
      let none : 0 + here ≡ here = omega arith in
      ap (range_with_len 0) long
      ∙ range-append 0 here (suc (length later))
      ∙ ap (λ a. range_with_len 0 here ++ range_with_len a (suc (length later))) none

  itself : goes here ≡ true
  itself = or_left (nat_eq here here) (are_alike same (slice_get xs here) (slice_get xs here)) (nat_eq_equiv.refl here)

  abbrev before : List ℕ
  before = filter goes (range_with_len 0 here)

  abbrev after : List ℕ
  after = filter goes (range_with_len (here + 1) (length later))

  abbrev part : List ℕ
  part = part_with (go_together same xs) (length xs) here

  part_members : members_at xs part ≡ filter (same y) earlier ++ y ∷ filter (same y) later
  part_members =
      ap (λ ns. members_at xs (filter goes ns)) numbers_are
      ∙ ap (members_at xs) (filter-append goes (range_with_len 0 here) (here ∷ range_with_len (here + 1) (length later)))
      ∙ ap (λ t. members_at xs (before ++ cond t (here ∷ after) after)) itself
      ∙ filter_map-append (slice_get xs) before (here ∷ after)
      ∙ (λ t. chosen xs goes (same y) 0 earlier fits_earlier t
      ++ cons_option (at_here t) (chosen xs goes (same y) (here + 1) later fits_later t))

  before_counted : count_by goes (range_with_len 0 here) ≡ count_by (same y) earlier
  before_counted = counted xs goes (same y) 0 earlier fits_earlier

  taken : take here xs ≡ earlier
  taken = ap (take here) is ∙ take_at earlier (y ∷ later) here refl

  dropped : drop (here + 1) xs ≡ later
  dropped =
      ap (drop (here + 1)) (is ∙ sym (append_assoc earlier (y ∷ []) later))
      ∙ drop_at (earlier ++ y ∷ []) later (here + 1) (length_push earlier y)

  -- what is found at a member that is alike itself
  pub part_here : same y y ≡ true → part_at same xs (here, y) ≡ cond (is_nth (go_together same xs) 1 here) (members_at xs part ∷ []) []
  part_here reflexive =
      let tests : nat_eq (count_by (same y) (take here xs)) 1 ≡ is_nth (go_together same xs) 1 here =
      ap (λ l. nat_eq (count_by (same y) l) 1) taken ∙ ap (λ c. nat_eq c 1) (sym before_counted) in
      let lists : filter (same y) xs ≡ members_at xs part =
      ap (filter (same y)) is
      ∙ filter-append (same y) earlier (y ∷ later)
      ∙ ap (λ t. filter (same y) earlier ++ cond t (y ∷ filter (same y) later) (filter (same y) later)) reflexive
      ∙ sym part_members in
      λ t. cond (tests t) (lists t ∷ []) []

  abbrev found : List X
  found = y ∷ filter (same y) later

  turned : (b : Bool) (l : List X) → cond b [] (l ∷ []) ≡ cond (not b) (l ∷ []) []
  turned true l = refl
  turned false l = refl

  shown : (b : Bool) → (b ≡ false → found ≡ members_at xs part) → cond (not b) (found ∷ []) [] ≡ cond (not b) (members_at xs part ∷ []) []
  shown true h = refl
  shown false h = let e = h refl in λ t. e t ∷ []

  -- what is found at a member by which others are gathered
  pub gathered_here : gathered_at same xs (here, y) ≡ cond (is_nth (go_together same xs) 0 here) (members_at xs part ∷ []) []
  gathered_here =
      let tests : is_nth (go_together same xs) 0 here ≡ not (list_any (same y) earlier) =
      ap (λ c. nat_eq c 0) (before_counted ∙ sym (length-filter (same y) earlier)) ∙ none_counted (same y) earlier in
      (λ t. cond (list_any (same y) (taken t)) [] ((y ∷ filter (same y) (dropped t)) ∷ []))
      ∙ turned (list_any (same y) earlier) found
      ∙ shown (list_any (same y) earlier) (λ none. ap (λ l. l ++ found) (sym (none_passes (same y) earlier none)) ∙ sym part_members)
      ∙ ap (λ b. cond b (members_at xs part ∷ []) []) (sym tests)

module _ {X : Type 0} (same : X → X → Bool) (xs : List X) where
  abbrev members_with : ℕ → List X
  members_with i = members_at xs (part_with (go_together same xs) (length xs) i)

  abbrev members_of : List ℕ → List (List X)
  members_of is = map (members_at xs) (map (part_with (go_together same xs) (length xs)) is)

  abbrev nths_from : ℕ → ℕ → ℕ → List ℕ
  nths_from n start count = filter (is_nth (go_together same xs) n) (range_with_len start count)

  one_more : (b : Bool) (i : ℕ) (is : List ℕ) (rest : List (List X)) → rest ≡ members_of is
      → cond b (members_with i ∷ []) [] ++ rest
      ≡ members_of (cond b (i ∷ is) is)
  one_more true i is rest e = ap (λ ps. members_with i ∷ ps) e
  one_more false i is rest e = e

  -- what is found at each member in turn
  all_found : (h : ℕ × X → List (List X)) (n : ℕ)
      → ((earlier : List X) (y : X) (later : List X) → xs ≡ earlier ++ y ∷ later
      → h (length earlier, y) ≡ cond (is_nth (go_together same xs) n (length earlier)) (members_with (length earlier) ∷ []) [])
      → (earlier later : List X) → xs ≡ earlier ++ later
      → flat_map h (enumerate_from (length earlier) later)
      ≡ members_of (nths_from n (length earlier) (length later))
  all_found h n at_each earlier [] e = refl
  all_found h n at_each earlier (y ∷ later) e =
      let whole : xs ≡ (earlier ++ y ∷ []) ++ later = e ∙ sym (append_assoc earlier (y ∷ []) later) in
      let rest = subst
      (λ m. flat_map h (enumerate_from m later)
      ≡ members_of (nths_from n m (length later)))
      (length_push earlier y) (all_found h n at_each (earlier ++ y ∷ []) later whole) in
      ap (λ ps. ps ++ flat_map h (enumerate_from (length earlier + 1) later)) (at_each earlier y later e)
      ∙ one_more (is_nth (go_together same xs) n (length earlier)) (length earlier) (nths_from n (length earlier + 1) (length later))
      (flat_map h (enumerate_from (length earlier + 1) later)) rest

  pub parts_found : ((x : X) → same x x ≡ true) → parts same xs ≡ map (members_at xs) (parted (go_together same xs) (length xs) 1)
  parts_found reflexive = all_found (part_at same xs) 1 (λ earlier y later e. part_here same xs earlier y later e (reflexive y)) [] xs refl

  pub gathered_found : gathered same xs ≡ map (members_at xs) (parted (go_together same xs) (length xs) 0)
  gathered_found = all_found (gathered_at same xs) 0 (λ earlier y later e. gathered_here same xs earlier y later e) [] xs refl

  -- what is found is the one list of parts
  pub the_parts : IsPartialEquivalence same → (n : ℕ) (all : List (List X)) → all ≡ map (members_at xs) (parted (go_together same xs) (length xs) n)
      → (ps : List (List X)) → (ps ≡ all) ↔ ArePartsOf same n xs ps
  the_parts per n all found ps =
      let equivalence = together same per xs in (
        λ is. (parted (go_together same xs) (length xs) n, are_parts (go_together same xs) equivalence (length xs) n, is ∙ found),
        λ related. related.2 ∙ ap (map (members_at xs)) (unique (go_together same xs) equivalence (length xs) n related.0 related.1) ∙ sym found,
      )
