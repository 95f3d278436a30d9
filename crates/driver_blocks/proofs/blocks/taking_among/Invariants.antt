use Rattle.std.proofs.Common.{◌≡◌, false, [], drop}
use Rattle.std.specs.Prelude.{find, slice_index_or}
use Rattle.driver_blocks.specs.Blocks.{is_of_block}
use Rattle.driver_blocks.specs.Views.{blocks_view, gathered_view, takes}
use Rattle.driver_blocks.proofs.blocks.taking_among.Given as goal

abbrev pub invariant-loop-index : goal.invariant-loop-index
invariant-loop-index l =
    find (λ p. takes (is_of_block false) (slice_index_or (blocks_view l.blocks) p []) (gathered_view l.cite)) (drop l.index-index l.indices)
    ≡ find (λ p. takes (is_of_block false) (slice_index_or (blocks_view l.blocks) p []) (gathered_view l.cite)) l.indices
