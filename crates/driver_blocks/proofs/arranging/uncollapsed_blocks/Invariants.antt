use Rattle.std.proofs.Common.{◌≡◌, ◌++◌, map, drop}
use Rattle.std.specs.List.{flat_map}
use Rattle.rendering_style.specs.Styles.{Citation}
use Rattle.driver_blocks.specs.Collapsing.{uncollapsed_block}
use Rattle.driver_blocks.specs.Views.{arranged_view, blocks_view}
use Rattle.driver_blocks.proofs.arranging.uncollapsed_blocks.Given as goal

abbrev pub invariant-loop-block : goal.invariant-loop-block
invariant-loop-block l = (c : Citation) → map (arranged_view c) l.all.items ++ flat_map (uncollapsed_block c) (blocks_view (drop l.block-index l.blocks)) ≡ flat_map (uncollapsed_block c) (blocks_view l.blocks)
