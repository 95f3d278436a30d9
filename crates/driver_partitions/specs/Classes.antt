-- The classes of a round and the blocks of a citation, as parts of its cites.
use Rattle.std.specs.Prelude.{◌≡◌, Bool, not, ◌==◌, ◌&&◌, List, filter}
use Rattle.std.specs.List.{list_any}
use Rattle.rendering_context.specs.Cites.{allows_suffix}
use Rattle.rendering_style.specs.Styles.{Citation}
use Rattle.driver_names.specs.Prints.{Printed, only_repeats}
use Rattle.driver_disambiguation.specs.Classes.{is_alike}
use Rattle.driver_blocks.specs.Blocks.{Gathered, gathers, is_of_block}
use Rattle.driver_partitions.specs.Parts.{ArePartsOf}

-- whether some two of cites are of different entries
abbrev pub are_of_two_entries : List Printed → Bool
are_of_two_entries ss = list_any (λ s. list_any (λ t. not (s.entry == t.entry)) ss) ss

-- The classes of a round, from all cites of the document as they print at its start, hidden ones and several of one entry among them: of
-- the cites that may still be given a year suffix and do not only repeat the cite before them, the parts of two or more that print one
-- text, which may be empty, in the order of their second cites, also where these are of the entry of the first; of these the parts with
-- cites of two entries.
abbrev pub AreClasses : List Printed → List (List Printed) → Type 0
AreClasses ss cs = (ps : List (List Printed)) × ArePartsOf is_alike 1 (filter (λ s. allows_suffix s.state && not (only_repeats s)) ss) ps × (cs ≡ filter are_of_two_entries ps)

-- whether two cites stand in one block: their style gathers cites, and the names elements that they print are the same, with the people
-- that they name and do not show, or, where it gathers by the text, print the same people alike; a cite without one goes with no other
abbrev pub are_of_one_block : {X : Type 0} → Citation → Gathered X → Gathered X → Bool
are_of_one_block c x y = gathers c && is_of_block c.gathers_by_text x y

-- The blocks of a citation: its cites, hidden ones among them, in parts, in the order of their first cites. A cite that goes with no other
-- is a block by itself.
abbrev pub AreBlocks : {X : Type 0} → Citation → List (Gathered X) → List (List (Gathered X)) → Type 0
AreBlocks c xs bs = ArePartsOf (are_of_one_block c) 0 xs bs
