use Rattle.std.proofs.Common.{◌≡◌, map, take}
use Rattle.driver_blocks.specs.Blocks.{gathered, is_of_block}
use Rattle.driver_blocks.specs.Indexed.{IsIndex}
use Rattle.driver_blocks.specs.Views.{blocks_view, gathered_view}
use Rattle.driver_blocks.proofs.blocks.gather.Given as goal

abbrev pub invariant-loop-cite : goal.invariant-loop-cite
invariant-loop-cite l = (blocks_view l.blocks.items ≡ gathered (is_of_block l.by_text) (map gathered_view (take l.cite-index l.cites))) × IsIndex l.by_text l.table (blocks_view l.blocks.items)
