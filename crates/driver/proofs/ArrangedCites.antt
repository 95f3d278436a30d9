-- What holds of all cites that are gathered holds of all that are arranged, and none of these is shown that was not.
use Rattle.std.proofs.Common.{◌≡◌, ℕ, ◌+◌, Bool, true, false, ◌&&◌, List, [], ◌∷◌, drop, filter, map, refl, sym, subst, Option, Some, None}
use Rattle.std.specs.Prelude.{if◌then◌else◌, take}
use Rattle.std.specs.List.{AllByRecursion, enumerate_from, flat_map, list_any}
use Rattle.rendering_style.specs.Styles.{Citation}
use Rattle.rendering_taxonomy.specs.declared.style.Collapse.{Collapse}
use Rattle.rendering_taxonomy.specs.declared.style.Collapse.TheVariants as collapses
use Rattle.driver_requests.specs.Suffixes.{Suffix}
use Rattle.driver_blocks.specs.Blocks.{Gathered, blocks, gathered, gathered_at, gathers, inside_delimiter, is_of_block}
use Rattle.driver_blocks.specs.Collapsing.{after_run, arranged, block_by, collapsed, continues, delimiter_after_collapsed, has_later, is_next_number, is_numbered, last_suffix, later_cites, numbers_collapsed, suffixes_collapsed, uncollapsed, uncollapsed_block, with_previous_test, year_block, years_collapsed}
use Rattle.driver_blocks.specs.Runs.{Arranged, collapsed_run, is_long, last_after_dash, runs_of}
use Rattle.driver.proofs.ArrangedCount.{runs_all}
use Rattle.driver.proofs.Members.{drop_all, either_all, enumerate_all, filter_all, flat_all, map_all, parts_all, weaker_all, zip_all}

module _ {X : Type 0} (c : Citation) (P : Gathered X → Type 0) where
  -- it holds of a cite that is arranged, and where this was not to be shown it is not
  abbrev pub IsOne : Arranged X → Type 0
  IsOne a = P a.cite × (a.cite.is_shown ≡ false → a.is_shown ≡ false)

  runs_each : {A : Type 0} (Q : A → Type 0) (follows : A → A → Bool) (ys : List A) → AllByRecursion Q ys → AllByRecursion (AllByRecursion Q) (runs_of follows ys)
  runs_each Q follows ys h = parts_all Q (runs_of follows ys) (subst (AllByRecursion Q) (sym (runs_all follows ys)) h)

  tested_each : {A : Type 0} (Q : A → Type 0) (test : List A → Bool) (xss : List (List A)) → AllByRecursion (AllByRecursion Q) xss → AllByRecursion (λ (p : Bool × List A). AllByRecursion Q p.1) (with_previous_test test xss)
  tested_each Q test xss h = zip_all (AllByRecursion Q) (false ∷ map test xss) xss h

  dashed_all : (xs : List (Arranged X)) → AllByRecursion IsOne xs → AllByRecursion IsOne (last_after_dash xs)
  dashed_all [] h = tt
  dashed_all (a ∷ []) h = h
  dashed_all (a ∷ b ∷ others) h = ((h.0.0, λ e. refl), dashed_all (b ∷ others) h.1)

  run_all : (xs : List (Arranged X)) → AllByRecursion IsOne xs → AllByRecursion IsOne (collapsed_run xs)
  run_all [] h = tt
  run_all (a ∷ others) h = either_all IsOne (is_long (a ∷ others)) (a ∷ last_after_dash others) (a ∷ others) (h.0, dashed_all others h.1) h

  after_all : (p : Bool × List (Arranged X)) → AllByRecursion IsOne p.1 → AllByRecursion IsOne (after_run c p)
  after_all (is_after, []) h = tt
  after_all (is_after, a ∷ others) h = either_all IsOne (is_after && is_numbered a) (record a { delimiter = delimiter_after_collapsed c } ∷ others) (a ∷ others) h h

  numbers_all : (xs : List (Arranged X)) → AllByRecursion IsOne xs → AllByRecursion IsOne (numbers_collapsed c xs)
  numbers_all xs h =
      let runs = with_previous_test is_long (runs_of (is_next_number c.locators_end_runs) xs) in
      flat_all IsOne (λ r. collapsed_run (after_run c r)) runs
      (weaker_all (λ (r : Bool × List (Arranged X)). AllByRecursion IsOne r.1) (λ r. AllByRecursion IsOne (collapsed_run (after_run c r))) (λ r g. run_all (after_run c r) (after_all r g)) runs
      (tested_each IsOne is_long (runs_of (is_next_number c.locators_end_runs) xs) (runs_each IsOne (is_next_number c.locators_end_runs) xs h)))

  suffixes_all : (xs : List (Arranged X)) → AllByRecursion IsOne xs → AllByRecursion IsOne (suffixes_collapsed xs)
  suffixes_all xs h =
      flat_all IsOne collapsed_run (runs_of continues xs)
      (weaker_all (AllByRecursion IsOne) (λ r. AllByRecursion IsOne (collapsed_run r)) run_all (runs_of continues xs) (runs_each IsOne continues xs h))

  each_uncollapsed : (d : Option (List ℕ)) (xs : List (Gathered X)) → AllByRecursion P xs → AllByRecursion IsOne (map (uncollapsed d) xs)
  each_uncollapsed d xs h = map_all IsOne (uncollapsed d) xs (weaker_all P (λ x. IsOne (uncollapsed d x)) (λ x g. (g, λ e. e)) xs h)

  block_all : (xs : List (Gathered X)) → AllByRecursion P xs → AllByRecursion IsOne (uncollapsed_block c xs)
  block_all [] h = tt
  block_all (x ∷ xs) h = ((h.0, λ e. e), each_uncollapsed (inside_delimiter c) xs h.1)

  later_all : (none : Bool) (mode : Collapse) (last : Option Suffix) (xs : List (Gathered X)) → AllByRecursion P xs → AllByRecursion IsOne (later_cites c none mode last xs)
  later_all none mode last [] h = tt
  later_all none mode last (x ∷ xs) h = ((h.0, λ e. e), later_all none mode (last_suffix last x) xs h.1)

  years_all : (none : Bool) (mode : Collapse) (p : Bool × List (Gathered X)) → AllByRecursion P p.1 → AllByRecursion IsOne (year_block c none mode p)
  years_all none mode (is_after, []) h = tt
  years_all none mode (is_after, x ∷ xs) h = ((h.0, λ e. e), later_all none mode (last_suffix None x) xs h.1)

  by_all : (none : Bool) (mode : Collapse) (p : Bool × List (Gathered X)) → AllByRecursion P p.1 → AllByRecursion IsOne (block_by c none mode p)
  by_all none collapses.CitationNumber p h = years_all none collapses.CitationNumber p h
  by_all none collapses.Year p h = years_all none collapses.Year p h
  by_all none collapses.YearSuffix p h = years_all none collapses.YearSuffix p h
  by_all none collapses.YearSuffixRanged p h = suffixes_all (year_block c none collapses.YearSuffixRanged p) (years_all none collapses.YearSuffixRanged p h)

  uncollapsed_all : (bs : List (List (Gathered X))) → AllByRecursion (AllByRecursion P) bs → AllByRecursion IsOne (flat_map (uncollapsed_block c) bs)
  uncollapsed_all bs h = flat_all IsOne (uncollapsed_block c) bs (weaker_all (AllByRecursion P) (λ b. AllByRecursion IsOne (uncollapsed_block c b)) block_all bs h)

  each_year : (none : Bool) (mode : Collapse) (bs : List (List (Gathered X))) → AllByRecursion (AllByRecursion P) bs → AllByRecursion IsOne (years_collapsed c none mode bs)
  each_year none mode bs h =
      let tested = with_previous_test has_later bs in
      flat_all IsOne (block_by c none mode) tested
      (weaker_all (λ (p : Bool × List (Gathered X)). AllByRecursion P p.1) (λ p. AllByRecursion IsOne (block_by c none mode p)) (by_all none mode) tested (tested_each P has_later bs h))

  collapsed_all : (mode : Option Collapse) (bs : List (List (Gathered X))) → AllByRecursion (AllByRecursion P) bs → AllByRecursion IsOne (collapsed c mode bs)
  collapsed_all None bs h = uncollapsed_all bs h
  collapsed_all (Some collapses.CitationNumber) bs h = numbers_all (flat_map (uncollapsed_block c) bs) (uncollapsed_all bs h)
  collapsed_all (Some collapses.Year) bs h = each_year c.repeats_no_years collapses.Year bs h
  collapsed_all (Some collapses.YearSuffix) bs h = each_year c.repeats_no_years collapses.YearSuffix bs h
  collapsed_all (Some collapses.YearSuffixRanged) bs h = each_year c.repeats_no_years collapses.YearSuffixRanged bs h

  -- whether two cites are of one block
  abbrev same : Gathered X → Gathered X → Bool
  same = is_of_block c.gathers_by_text

  gathered_one : (xs : List (Gathered X)) → AllByRecursion P xs → (p : ℕ × Gathered X) → P p.1 → AllByRecursion (AllByRecursion P) (gathered_at same xs p)
  gathered_one xs h (i, y) g =
      either_all (AllByRecursion P) (list_any (same y) (take i xs)) [] ((y ∷ filter (same y) (drop (i + 1) xs)) ∷ []) tt
      ((g, filter_all P (same y) (drop (i + 1) xs) (drop_all P (i + 1) xs h)), tt)

  blocks_all : (b : Bool) (xs : List (Gathered X)) → AllByRecursion P xs → AllByRecursion (AllByRecursion P) (if b then gathered same xs else map (λ x. x ∷ []) xs)
  blocks_all true xs h =
      flat_all (AllByRecursion P) (gathered_at same xs) (enumerate_from 0 xs)
      (weaker_all (λ (p : ℕ × Gathered X). P p.1) (λ p. AllByRecursion (AllByRecursion P) (gathered_at same xs p)) (gathered_one xs h) (enumerate_from 0 xs) (enumerate_all P 0 xs h))
  blocks_all false xs h = map_all (AllByRecursion P) (λ x. x ∷ []) xs (weaker_all P (λ x. AllByRecursion P (x ∷ [])) (λ x g. (g, tt)) xs h)

  -- what holds of all cites that are gathered
  pub arranged_all : (some_purpose : Bool) (xs : List (Gathered X)) → AllByRecursion P xs → AllByRecursion IsOne (arranged c some_purpose xs)
  arranged_all some_purpose xs h = collapsed_all (if some_purpose then None else c.collapse) (blocks c xs) (blocks_all (gathers c) xs h)
