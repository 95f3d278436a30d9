-- Cites are arranged alike however they are known.
use Rattle.std.proofs.Common.{◌≡◌, ℕ, ◌+◌, Bool, true, false, ◌&&◌, List, [], ◌∷◌, ◌++◌, nat_le, filter, map, take, drop, refl, sym, ap, ◌∙◌, Option, Some, None}
use Rattle.std.specs.List.{enumerate_from, flat_map, list_any, zip}
use Rattle.std.specs.Prelude.{if◌then◌else◌}
use Rattle.std.proofs.lemmas.List.{drop-map, length-map, map-append, take-map}
use Rattle.rendering_style.specs.Styles.{Citation}
use Rattle.rendering_taxonomy.specs.declared.style.Collapse.{Collapse}
use Rattle.rendering_taxonomy.specs.declared.style.Collapse.TheVariants as collapses
use Rattle.driver_requests.specs.Suffixes.{Suffix}
use Rattle.driver_blocks.specs.Blocks.{Gathered, blocks, gathered, gathered_at, gathers, inside_delimiter, is_of_block}
use Rattle.driver_blocks.specs.Collapsing.{after_run, arranged, block_by, collapsed, continues, delimiter_after_collapsed, has_later, is_next_number, is_numbered, last_suffix, later, later_cites, numbers_collapsed, suffixes_collapsed, uncollapsed, uncollapsed_block, with_previous_test, year_block, years_collapsed}
use Rattle.driver_blocks.specs.Runs.{Arranged, added_to_runs, collapsed_run, is_long, last_after_dash, runs_of}
use Rattle.driver.specs.Renaming.{arranged_as, gathered_as}
use Rattle.driver.proofs.Maps.{any_map, enumerate_map, placed}

flat_both : {A B C D : Type 0} (k : A → B) (m : C → D) (g : A → List C) (h : B → List D) → ((a : A) → h (k a) ≡ map m (g a)) → (xs : List A) → flat_map h (map k xs) ≡ map m (flat_map g xs)
flat_both k m g h e [] = refl
flat_both k m g h e (x ∷ xs) = (λ i. e x i ++ flat_both k m g h e xs i) ∙ sym (map-append m (g x) (flat_map g xs))

kept_if : {A B : Type 0} (k : A → B) (b : Bool) (x : A) (xs : List A) → (if b then k x ∷ map k xs else map k xs) ≡ map k (if b then x ∷ xs else xs)
kept_if k true x xs = refl
kept_if k false x xs = refl

filter_renamed : {A B : Type 0} (k : A → B) (p : B → Bool) (xs : List A) → filter p (map k xs) ≡ map k (filter (λ x. p (k x)) xs)
filter_renamed k p [] = refl
filter_renamed k p (x ∷ xs) = ap (λ ys. if p (k x) then k x ∷ ys else ys) (filter_renamed k p xs) ∙ kept_if k (p (k x)) x (filter (λ y. p (k y)) xs)

chosen_list : {A B : Type 0} (k : A → B) (b : Bool) (xs : List A) → (if b then [] else map k xs ∷ []) ≡ map (map k) (if b then [] else xs ∷ [])
chosen_list k true xs = refl
chosen_list k false xs = refl

gathered_at_renamed : {A B : Type 0} (k : A → B) (same : B → B → Bool) (xs : List A) (p : ℕ × A) → gathered_at same (map k xs) (placed k p) ≡ map (map k) (gathered_at (λ x y. same (k x) (k y)) xs p)
gathered_at_renamed k same xs (i, y) =
    let met : list_any (same (k y)) (take i (map k xs)) ≡ list_any (λ x. same (k y) (k x)) (take i xs) = ap (list_any (same (k y))) (take-map k i xs) ∙ any_map k (same (k y)) (take i xs) in
    let like : filter (same (k y)) (drop (i + 1) (map k xs)) ≡ map k (filter (λ x. same (k y) (k x)) (drop (i + 1) xs)) =
    ap (filter (same (k y))) (drop-map k (i + 1) xs) ∙ filter_renamed k (same (k y)) (drop (i + 1) xs) in
    (λ j. if met j then [] else (k y ∷ like j) ∷ [])
    ∙ chosen_list k (list_any (λ x. same (k y) (k x)) (take i xs)) (y ∷ filter (λ x. same (k y) (k x)) (drop (i + 1) xs))

gathered_renamed : {A B : Type 0} (k : A → B) (same : B → B → Bool) (xs : List A) → gathered same (map k xs) ≡ map (map k) (gathered (λ x y. same (k x) (k y)) xs)
gathered_renamed k same xs =
    ap (flat_map (gathered_at same (map k xs))) (enumerate_map k 0 xs)
    ∙ flat_both (placed k) (map k) (gathered_at (λ x y. same (k x) (k y)) xs) (gathered_at same (map k xs)) (gathered_at_renamed k same xs) (enumerate_from 0 xs)

alone_renamed : {A B : Type 0} (k : A → B) (xs : List A) → map (λ x. x ∷ []) (map k xs) ≡ map (map k) (map (λ x. x ∷ []) xs)
alone_renamed k [] = refl
alone_renamed k (x ∷ xs) = ap (λ ys. (k x ∷ []) ∷ ys) (alone_renamed k xs)

blocks_if : {A B : Type 0} (k : A → B) (b : Bool) (xs ys : List (List A)) (us vs : List (List B)) → us ≡ map (map k) xs → vs ≡ map (map k) ys → (if b then us else vs) ≡ map (map k) (if b then xs else ys)
blocks_if k true xs ys us vs e f = e
blocks_if k false xs ys us vs e f = f

-- members in runs
added_if : {A B : Type 0} (k : A → B) (b : Bool) (y z : A) (zs : List A) (runs : List (List A))
    → (if b then (k y ∷ k z ∷ map k zs) ∷ map (map k) runs else (k y ∷ []) ∷ (k z ∷ map k zs) ∷ map (map k) runs) ≡ map (map k) (if b then (y ∷ z ∷ zs) ∷ runs else (y ∷ []) ∷ (z ∷ zs) ∷ runs)
added_if k true y z zs runs = refl
added_if k false y z zs runs = refl

added_renamed : {A B : Type 0} (k : A → B) (follows : B → B → Bool) (y : A) (runs : List (List A)) → added_to_runs follows (k y) (map (map k) runs) ≡ map (map k) (added_to_runs (λ x z. follows (k x) (k z)) y runs)
added_renamed k follows y [] = refl
added_renamed k follows y ([] ∷ runs) = refl
added_renamed k follows y ((z ∷ zs) ∷ runs) = added_if k (follows (k y) (k z)) y z zs runs

runs_renamed : {A B : Type 0} (k : A → B) (follows : B → B → Bool) (ys : List A) → runs_of follows (map k ys) ≡ map (map k) (runs_of (λ x z. follows (k x) (k z)) ys)
runs_renamed k follows [] = refl
runs_renamed k follows (y ∷ ys) = ap (added_to_runs follows (k y)) (runs_renamed k follows ys) ∙ added_renamed k follows y (runs_of (λ x z. follows (k x) (k z)) ys)

-- a list with whether the one before it passed
abbrev tested : {A B : Type 0} → (A → B) → Bool × List A → Bool × List B
tested k p = (p.0, map k p.1)

tests_from : {A B : Type 0} (k : A → B) (test : List A → Bool) (again : List B → Bool) → ((xs : List A) → again (map k xs) ≡ test xs) → (b : Bool) (xss : List (List A))
    → zip (b ∷ map again (map (map k) xss)) (map (map k) xss) ≡ map (tested k) (zip (b ∷ map test xss) xss)
tests_from k test again e b [] = refl
tests_from k test again e b (xs ∷ xss) =
    ap (λ c. (b, map k xs) ∷ zip (c ∷ map again (map (map k) xss)) (map (map k) xss)) (e xs) ∙ ap (λ ys. (b, map k xs) ∷ ys) (tests_from k test again e (test xs) xss)

tests_renamed : {A B : Type 0} (k : A → B) (test : List A → Bool) (again : List B → Bool) → ((xs : List A) → again (map k xs) ≡ test xs) → (xss : List (List A))
    → with_previous_test again (map (map k) xss) ≡ map (tested k) (with_previous_test test xss)
tests_renamed k test again e xss = tests_from k test again e false xss

module _ {X Y : Type 0} (f : X → Y) (c : Citation) where
  dashed_renamed : (xs : List (Arranged X)) → last_after_dash (map (arranged_as f) xs) ≡ map (arranged_as f) (last_after_dash xs)
  dashed_renamed [] = refl
  dashed_renamed (a ∷ []) = refl
  dashed_renamed (a ∷ b ∷ others) = ap (λ ys. arranged_as f (record a { is_shown = false }) ∷ ys) (dashed_renamed (b ∷ others))

  long_renamed : {A B : Type 0} (k : A → B) (xs : List A) → is_long (map k xs) ≡ is_long xs
  long_renamed k xs = ap (nat_le 3) (length-map xs k)

  later_renamed : {A B : Type 0} (k : A → B) (xs : List A) → has_later (map k xs) ≡ has_later xs
  later_renamed k xs = ap (nat_le 2) (length-map xs k)

  run_if : (b : Bool) (a : Arranged X) (xs ys : List (Arranged X)) (us : List (Arranged Y)) → us ≡ map (arranged_as f) xs
      → (if b then arranged_as f a ∷ us else arranged_as f a ∷ map (arranged_as f) ys) ≡ map (arranged_as f) (if b then a ∷ xs else a ∷ ys)
  run_if true a xs ys us e = ap (λ zs. arranged_as f a ∷ zs) e
  run_if false a xs ys us e = refl

  run_renamed : (xs : List (Arranged X)) → collapsed_run (map (arranged_as f) xs) ≡ map (arranged_as f) (collapsed_run xs)
  run_renamed [] = refl
  run_renamed (a ∷ others) =
      ap (λ b. if b then arranged_as f a ∷ last_after_dash (map (arranged_as f) others) else arranged_as f a ∷ map (arranged_as f) others) (long_renamed (arranged_as f) (a ∷ others))
      ∙ run_if (is_long (a ∷ others)) a (last_after_dash others) others (last_after_dash (map (arranged_as f) others)) (dashed_renamed others)

  after_if : (b : Bool) (a d : Arranged X) (others : List (Arranged X)) → (if b then arranged_as f a ∷ map (arranged_as f) others else arranged_as f d ∷ map (arranged_as f) others) ≡ map (arranged_as f) (if b then a ∷ others else d ∷ others)
  after_if true a d others = refl
  after_if false a d others = refl

  after_renamed : (p : Bool × List (Arranged X)) → after_run c (tested (arranged_as f) p) ≡ map (arranged_as f) (after_run c p)
  after_renamed (is_after, []) = refl
  after_renamed (is_after, a ∷ others) = after_if (is_after && is_numbered a) (record a { delimiter = delimiter_after_collapsed c }) a others

  numbers_renamed : (xs : List (Arranged X)) → numbers_collapsed c (map (arranged_as f) xs) ≡ map (arranged_as f) (numbers_collapsed c xs)
  numbers_renamed xs =
      ap (λ runs. flat_map (λ r. collapsed_run (after_run c r)) (with_previous_test is_long runs)) (runs_renamed (arranged_as f) (is_next_number c.locators_end_runs) xs)
      ∙ ap (flat_map (λ r. collapsed_run (after_run c r))) (tests_renamed (arranged_as f) is_long is_long (long_renamed (arranged_as f)) (runs_of (is_next_number c.locators_end_runs) xs))
      ∙ flat_both (tested (arranged_as f)) (arranged_as f) (λ r. collapsed_run (after_run c r)) (λ r. collapsed_run (after_run c r)) (λ r. ap collapsed_run (after_renamed r) ∙ run_renamed (after_run c r))
      (with_previous_test is_long (runs_of (is_next_number c.locators_end_runs) xs))

  suffixes_renamed : (xs : List (Arranged X)) → suffixes_collapsed (map (arranged_as f) xs) ≡ map (arranged_as f) (suffixes_collapsed xs)
  suffixes_renamed xs = ap (flat_map collapsed_run) (runs_renamed (arranged_as f) continues xs) ∙ flat_both (map (arranged_as f)) (arranged_as f) collapsed_run collapsed_run run_renamed (runs_of continues xs)

  each_uncollapsed : (d : Option (List ℕ)) (xs : List (Gathered X)) → map (uncollapsed d) (map (gathered_as f) xs) ≡ map (arranged_as f) (map (uncollapsed d) xs)
  each_uncollapsed d [] = refl
  each_uncollapsed d (x ∷ xs) = ap (λ ys. uncollapsed d (gathered_as f x) ∷ ys) (each_uncollapsed d xs)

  block_uncollapsed : (xs : List (Gathered X)) → uncollapsed_block c (map (gathered_as f) xs) ≡ map (arranged_as f) (uncollapsed_block c xs)
  block_uncollapsed [] = refl
  block_uncollapsed (x ∷ xs) = ap (λ ys. uncollapsed c.layout.delimiter (gathered_as f x) ∷ ys) (each_uncollapsed (inside_delimiter c) xs)

  each_later : (none : Bool) (mode : Collapse) (last : Option Suffix) (xs : List (Gathered X)) → later_cites c none mode last (map (gathered_as f) xs) ≡ map (arranged_as f) (later_cites c none mode last xs)
  each_later none mode last [] = refl
  each_later none mode last (x ∷ xs) = ap (λ ys. later c none mode last (gathered_as f x) ∷ ys) (each_later none mode (last_suffix last x) xs)

  years_block : (none : Bool) (mode : Collapse) (p : Bool × List (Gathered X)) → year_block c none mode (tested (gathered_as f) p) ≡ map (arranged_as f) (year_block c none mode p)
  years_block none mode (is_after, []) = refl
  years_block none mode (is_after, x ∷ xs) =
      ap (λ ys. uncollapsed (if is_after then delimiter_after_collapsed c else c.layout.delimiter) (gathered_as f x) ∷ ys) (each_later none mode (last_suffix None x) xs)

  block_renamed : (none : Bool) (mode : Collapse) (p : Bool × List (Gathered X)) → block_by c none mode (tested (gathered_as f) p) ≡ map (arranged_as f) (block_by c none mode p)
  block_renamed none collapses.CitationNumber p = years_block none collapses.CitationNumber p
  block_renamed none collapses.Year p = years_block none collapses.Year p
  block_renamed none collapses.YearSuffix p = years_block none collapses.YearSuffix p
  block_renamed none collapses.YearSuffixRanged p =
      ap suffixes_collapsed (years_block none collapses.YearSuffixRanged p) ∙ suffixes_renamed (year_block c none collapses.YearSuffixRanged p)

  years_renamed : (none : Bool) (mode : Collapse) (bs : List (List (Gathered X))) → years_collapsed c none mode (map (map (gathered_as f)) bs) ≡ map (arranged_as f) (years_collapsed c none mode bs)
  years_renamed none mode bs =
      ap (flat_map (block_by c none mode)) (tests_renamed (gathered_as f) has_later has_later (later_renamed (gathered_as f)) bs)
      ∙ flat_both (tested (gathered_as f)) (arranged_as f) (block_by c none mode) (block_by c none mode) (block_renamed none mode) (with_previous_test has_later bs)

  uncollapsed_renamed : (bs : List (List (Gathered X))) → flat_map (uncollapsed_block c) (map (map (gathered_as f)) bs) ≡ map (arranged_as f) (flat_map (uncollapsed_block c) bs)
  uncollapsed_renamed bs = flat_both (map (gathered_as f)) (arranged_as f) (uncollapsed_block c) (uncollapsed_block c) block_uncollapsed bs

  collapsed_renamed : (mode : Option Collapse) (bs : List (List (Gathered X))) → collapsed c mode (map (map (gathered_as f)) bs) ≡ map (arranged_as f) (collapsed c mode bs)
  collapsed_renamed None bs = uncollapsed_renamed bs
  collapsed_renamed (Some collapses.CitationNumber) bs = ap (numbers_collapsed c) (uncollapsed_renamed bs) ∙ numbers_renamed (flat_map (uncollapsed_block c) bs)
  collapsed_renamed (Some collapses.Year) bs = years_renamed c.repeats_no_years collapses.Year bs
  collapsed_renamed (Some collapses.YearSuffix) bs = years_renamed c.repeats_no_years collapses.YearSuffix bs
  collapsed_renamed (Some collapses.YearSuffixRanged) bs = years_renamed c.repeats_no_years collapses.YearSuffixRanged bs

  blocks_renamed : (xs : List (Gathered X)) → blocks c (map (gathered_as f) xs) ≡ map (map (gathered_as f)) (blocks c xs)
  blocks_renamed xs =
      blocks_if (gathered_as f) (gathers c) (gathered (is_of_block c.gathers_by_text) xs) (map (λ x. x ∷ []) xs)
      (gathered (is_of_block c.gathers_by_text) (map (gathered_as f) xs)) (map (λ x. x ∷ []) (map (gathered_as f) xs))
      (gathered_renamed (gathered_as f) (is_of_block c.gathers_by_text) xs) (alone_renamed (gathered_as f) xs)

  -- cites that are known in another way are arranged alike
  pub arranged_renamed : (some_purpose : Bool) (xs : List (Gathered X)) → arranged c some_purpose (map (gathered_as f) xs) ≡ map (arranged_as f) (arranged c some_purpose xs)
  arranged_renamed some_purpose xs =
      let mode = if some_purpose then None else c.collapse in
      ap (collapsed c mode) (blocks_renamed xs) ∙ collapsed_renamed mode (blocks c xs)
