-- How citations are collapsed.
use Rattle.std.specs.Prelude.{ℕ, ◌+◌, Bool, false, true, not, ◌==◌, ◌&&◌, nat_le, nat_lt, List, [], ◌∷◌, length, map, zip, is_some, if◌then◌else◌, Option, Some, None}
use Rattle.std.specs.List.{flat_map}
use Rattle.std.specs.Option.{option_or, option_map_or}
use Rattle.rendering_style.specs.Styles.{Citation}
use Rattle.driver_requests.specs.Suffixes.{Suffix, is_origin}
use Rattle.driver_blocks.specs.Blocks.{Gathered, blocks, inside_delimiter}
use Rattle.driver_blocks.specs.Runs.{Arranged, runs_of, is_long, collapsed_run}
use Rattle.rendering_taxonomy.specs.declared.cite.CollapseVerdict.{CollapseVerdict}
use Rattle.rendering_taxonomy.specs.declared.cite.CollapseVerdict.TheVariants as verdicts
use Rattle.rendering_taxonomy.specs.declared.style.Collapse.{Collapse}
use Rattle.rendering_taxonomy.specs.declared.style.Collapse.TheVariants as collapses

-- a cite that prints all of itself, after a delimiter
abbrev pub uncollapsed : {X : Type 0} → Option (List ℕ) → Gathered X → Arranged X
uncollapsed delimiter x = record { cite = x; is_shown = x.is_shown; delimiter = delimiter; verdict = None }

-- a block whose cites print all: the delimiter of the layout before the first, that of blocks before the others
abbrev pub uncollapsed_block : {X : Type 0} → Citation → List (Gathered X) → List (Arranged X)
uncollapsed_block c [] = []
uncollapsed_block c (x ∷ xs) = uncollapsed c.layout.delimiter x ∷ map (uncollapsed (inside_delimiter c)) xs

-- the delimiter after cites that were collapsed
abbrev pub delimiter_after_collapsed : Citation → Option (List ℕ)
delimiter_after_collapsed c = option_or c.after_collapse_delimiter c.layout.delimiter

-- each member with whether the one before it passes a test; false with the first
abbrev pub with_previous_test : {Y : Type 0} → (Y → Bool) → List Y → List (Bool × Y)
with_previous_test test ys = zip (false ∷ map test ys) ys

-- whether a number is one more than the one before it
abbrev pub is_next : Option ℕ → Option ℕ → Bool
is_next (Some m) (Some n) = n == m + 1
is_next m n = false

-- the number of a cite that is shown
abbrev pub shown_number : {X : Type 0} → Arranged X → Option ℕ
shown_number a = if a.is_shown then a.cite.number else None

-- the number by which a cite stands in a run: it is shown, and, where locators end runs, has no locator
abbrev pub number_in_run : {X : Type 0} → Bool → Arranged X → Option ℕ
number_in_run ends a =
    if a.is_shown && not (ends && a.cite.has_locator) then a.cite.number else None

-- whether a number in a run is one more than the one before it
abbrev pub is_next_number : {X : Type 0} → Bool → Arranged X → Arranged X → Bool
is_next_number ends a b = is_next (number_in_run ends a) (number_in_run ends b)

-- whether a number is shown
abbrev pub is_numbered : {X : Type 0} → Arranged X → Bool
is_numbered a = is_some (shown_number a)

-- a run; where the run before it was collapsed and this one has numbers, the delimiter that follows what was collapsed comes before it
abbrev pub after_run : {X : Type 0} → Citation → Bool × List (Arranged X) → List (Arranged X)
after_run c (is_after, []) = []
after_run c (is_after, a ∷ others) = if is_after && is_numbered a then record a { delimiter = delimiter_after_collapsed c } ∷ others else a ∷ others

-- Cites in runs by a test: of three or more in a run those between the first and the last are hidden.
abbrev pub runs_collapsed : {X : Type 0} → Citation → (Arranged X → Arranged X → Bool) → List (Arranged X) → List (Arranged X)
runs_collapsed c follows xs =
    flat_map (λ r. collapsed_run (after_run c r))
    (with_previous_test is_long (runs_of follows xs))

-- Cites whose numbers are collapsed: those stand in a run whose numbers rise by one.
abbrev pub numbers_collapsed : {X : Type 0} → Citation → List (Arranged X) → List (Arranged X)
numbers_collapsed c xs = runs_collapsed c (is_next_number c.locators_end_runs) xs

-- whether a year suffix is another one than the first
abbrev pub is_further : Suffix → Bool
is_further s = nat_lt 0 s.index

-- whether two year suffixes are of one class, whose cites have one year
abbrev pub are_of_one_class : Option Suffix → Option Suffix → Bool
are_of_one_class (Some s) (Some t) = is_origin s.origin t.origin
are_of_one_class s t = false

-- Whether a cite leaves its year out, after the one with the last year suffix that is shown before it in its block: where no
-- years repeat, if both suffixes are of one class; else if its own is not the first one.
abbrev pub leaves_year_out : Bool → Option Suffix → Option Suffix → Bool
leaves_year_out repeats_none last suffix =
    if repeats_none then are_of_one_class last suffix else option_map_or is_further suffix false

-- what is left of a later cite where year suffixes are collapsed: its year suffix alone, if it leaves its year out, else its first date
abbrev pub suffix_verdict : Bool → Option Suffix → Option Suffix → CollapseVerdict
suffix_verdict repeats_none last suffix =
    if leaves_year_out repeats_none last suffix then verdicts.YearSuffix else verdicts.First

-- what is left of a later cite of a block by the mode; no block is collapsed where numbers are
abbrev pub verdict_in : Bool → Collapse → Option Suffix → Option Suffix → CollapseVerdict
verdict_in repeats_none collapses.CitationNumber last suffix = verdicts.First
verdict_in repeats_none collapses.Year last suffix = verdicts.First
verdict_in repeats_none collapses.YearSuffix last suffix = suffix_verdict repeats_none last suffix
verdict_in repeats_none collapses.YearSuffixRanged last suffix = suffix_verdict repeats_none last suffix

-- the delimiter before a cite of which so much is left
abbrev pub verdict_delimiter : Citation → CollapseVerdict → Option (List ℕ)
verdict_delimiter c verdicts.First = inside_delimiter c
verdict_delimiter c verdicts.YearSuffix = option_or c.year_suffix_delimiter (inside_delimiter c)

-- a later cite of a block, of which so much is left
abbrev pub collapsed_to : {X : Type 0} → Citation → CollapseVerdict → Gathered X → Arranged X
collapsed_to c verdict x = record { cite = x; is_shown = x.is_shown; delimiter = verdict_delimiter c verdict; verdict = Some verdict }

-- a later cite of a block by the mode, after the last year suffix that is shown before it
abbrev pub later :
    {X : Type 0} → Citation → Bool → Collapse → Option Suffix → Gathered X → Arranged X
later c repeats_none mode last x = collapsed_to c (verdict_in repeats_none mode last x.suffix) x

-- the year suffix of the last cite that is shown, once another cite stands
abbrev pub last_suffix : {X : Type 0} → Option Suffix → Gathered X → Option Suffix
last_suffix last x = if x.is_shown then x.suffix else last

-- the later cites of a block by the mode
abbrev pub later_cites :
    {X : Type 0} → Citation → Bool → Collapse → Option Suffix → List (Gathered X) → List (Arranged X)
later_cites c repeats_none mode last [] = []
later_cites c repeats_none mode last (x ∷ xs) =
    later c repeats_none mode last x
    ∷ later_cites c repeats_none mode (last_suffix last x) xs

-- a block whose later cites are collapsed; the flag says whether the block before it has two cites or more
abbrev pub year_block :
    {X : Type 0} → Citation → Bool → Collapse → Bool × List (Gathered X) → List (Arranged X)
year_block c repeats_none mode (is_after, []) = []
year_block c repeats_none mode (is_after, x ∷ xs) =
    uncollapsed (if is_after then delimiter_after_collapsed c else c.layout.delimiter) x
    ∷ later_cites c repeats_none mode (last_suffix None x) xs

-- whether a block has two cites or more
abbrev pub has_later : {Y : Type 0} → List Y → Bool
has_later ys = nat_le 2 (length ys)

-- whether a year suffix comes next after another one that the same class got in the same round
abbrev pub is_next_suffix : Option Suffix → Option Suffix → Bool
is_next_suffix (Some s) (Some t) = t.index == s.index + 1 && is_origin s.origin t.origin
is_next_suffix s t = false

-- the year suffix of a cite that is shown without a locator
abbrev pub shown_suffix : {X : Type 0} → Arranged X → Option Suffix
shown_suffix a = if a.is_shown && not a.cite.has_locator then a.cite.suffix else None

-- whether its year suffix alone is left of a cite
abbrev pub is_suffix_alone : Option CollapseVerdict → Bool
is_suffix_alone (Some verdicts.YearSuffix) = true
is_suffix_alone v = false

-- whether a cite continues a run of year suffixes: its year suffix alone is left, and comes next after that of the cite before it
abbrev pub continues : {X : Type 0} → Arranged X → Arranged X → Bool
continues a b = is_suffix_alone b.verdict && is_next_suffix (shown_suffix a) (shown_suffix b)

-- a block in which runs of year suffixes are collapsed
abbrev pub suffixes_collapsed : {X : Type 0} → List (Arranged X) → List (Arranged X)
suffixes_collapsed xs = flat_map collapsed_run (runs_of continues xs)

-- a block whose years are collapsed by the mode; no block is collapsed where numbers are
abbrev pub block_by :
    {X : Type 0} → Citation → Bool → Collapse → Bool × List (Gathered X) → List (Arranged X)
block_by c repeats_none collapses.CitationNumber b = year_block c repeats_none collapses.CitationNumber b
block_by c repeats_none collapses.Year b = year_block c repeats_none collapses.Year b
block_by c repeats_none collapses.YearSuffix b = year_block c repeats_none collapses.YearSuffix b
block_by c repeats_none collapses.YearSuffixRanged b =
    suffixes_collapsed (year_block c repeats_none collapses.YearSuffixRanged b)

-- blocks whose years are collapsed; the flag says whether no years repeat
abbrev pub years_collapsed :
    {X : Type 0} → Citation → Bool → Collapse → List (List (Gathered X)) → List (Arranged X)
years_collapsed c repeats_none mode bs =
    flat_map (block_by c repeats_none mode) (with_previous_test has_later bs)

-- blocks collapsed by a mode, if there is one
abbrev pub collapsed : {X : Type 0} → Citation → Option Collapse → List (List (Gathered X)) → List (Arranged X)
collapsed c None bs = flat_map (uncollapsed_block c) bs
collapsed c (Some collapses.CitationNumber) bs = numbers_collapsed c (flat_map (uncollapsed_block c) bs)
collapsed c (Some collapses.Year) bs = years_collapsed c c.repeats_no_years collapses.Year bs
collapsed c (Some collapses.YearSuffix) bs =
    years_collapsed c c.repeats_no_years collapses.YearSuffix bs
collapsed c (Some collapses.YearSuffixRanged) bs =
    years_collapsed c c.repeats_no_years collapses.YearSuffixRanged bs

-- The cites of a citation in their final order. Where one of them has a purpose nothing is collapsed.
abbrev pub arranged : {X : Type 0} → Citation → Bool → List (Gathered X) → List (Arranged X)
arranged c some_purpose xs = collapsed c (if some_purpose then None else c.collapse) (blocks c xs)
