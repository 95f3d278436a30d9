-- The laws that tie parts to what is computed, and to what the calls promise.
use Rattle.std.specs.Prelude.{◌≡◌, ◌↔◌, ℕ, ◌<◌, Bool, List, [], length, slice_index_or, Contains, if◌then◌else◌, None}
use Rattle.std.specs.List.{list_any}
use Rattle.std.specs.Cmp.{IsEquivalence, IsPartialEquivalence}
use Rattle.rendering_style.specs.Styles.{Citation}
use Rattle.driver_names.specs.Prints.{Printed, prints_date}
use Rattle.driver_disambiguation.specs.Classes.{classes, parts}
use Rattle.driver_disambiguation.specs.Gathered.{given_to_classes}
use Rattle.driver_disambiguation.specs.Rounds.{round_given}
use Rattle.driver_blocks.specs.Blocks.{Gathered, blocks, gathered}
use Rattle.driver_blocks.specs.Collapsing.{arranged, collapsed}
use Rattle.driver_partitions.specs.Parts.{AreParts, ArePartsOf, go_together}
use Rattle.driver_partitions.specs.Classes.{AreBlocks, AreClasses}

-- Where being alike is an equivalence, `parts` gives the one list of the parts of two members or more.
abbrev pub PartsAreThoseOfTwo : Type 0 → Type 0
PartsAreThoseOfTwo X = (alike : X → X → Bool) (xs : List X) (ps : List (List X)) → IsEquivalence alike → (ps ≡ parts alike xs) ↔ ArePartsOf alike 1 xs ps

-- Where being the same is symmetric and transitive, `gathered` gives the one list of the parts of one member or more.
abbrev pub GatheredAreThoseOfOne : Type 0 → Type 0
GatheredAreThoseOfOne X = (same : X → X → Bool) (xs : List X) (ps : List (List X)) → IsPartialEquivalence same → (ps ≡ gathered same xs) ↔ ArePartsOf same 0 xs ps

-- No index stands in two parts.
abbrev pub IndicesAreInOnePart : Type 0 → Type 0
IndicesAreInOnePart X =
    (alike : X → X → Bool) (xs : List X) (n : ℕ) (parts : List (List ℕ)) → AreParts (go_together alike xs) (length xs) n parts
    → (k m i : ℕ) → k < length parts → m < length parts → Contains (slice_index_or parts k []) i → Contains (slice_index_or parts m []) i → k ≡ m

-- What a round takes for its classes are its classes.
abbrev pub ClassesAreParts : Type 0
ClassesAreParts = (ss : List Printed) (cs : List (List Printed)) → (cs ≡ classes ss) ↔ AreClasses ss cs

-- What a citation takes for its blocks are its blocks.
abbrev pub BlocksAreParts : Type 0 → Type 0
BlocksAreParts X = (c : Citation) (xs : List (Gathered X)) (bs : List (List (Gathered X))) → (bs ≡ blocks c xs) ↔ AreBlocks c xs bs

-- A round gives what is given to its classes, one after the other.
abbrev pub RoundsGiveToClasses : Type 0
RoundsGiveToClasses =
    (adds_names : Bool) (round : ℕ) (ss : List Printed) (cs : List (List Printed))
    → AreClasses ss cs → round_given adds_names round ss ≡ given_to_classes adds_names (list_any prints_date ss) round cs

-- A citation has its cites as its blocks have them, collapsed by its style unless one of them has a purpose.
abbrev pub CitationsHaveBlocks : Type 0 → Type 0
CitationsHaveBlocks X =
    (c : Citation) (some_purpose : Bool) (xs : List (Gathered X)) (bs : List (List (Gathered X)))
    → AreBlocks c xs bs → arranged c some_purpose xs ≡ collapsed c (if some_purpose then None else c.collapse) bs
