use Rattle.std.proofs.Common.{◌≡◌, ◌∷◌, ◌++◌, drop, flat_map, map, zip}
use Rattle.rendering_style.specs.Styles.{Citation}
use Rattle.driver_blocks.specs.Collapsing.{block_by, has_later, years_collapsed}
use Rattle.driver_blocks.specs.Views.{arranged_view, blocks_view}
use Rattle.driver_blocks.proofs.years.collapse_years.Given as goal

abbrev pub invariant-loop-block : goal.invariant-loop-block
invariant-loop-block l =
    (c : Citation)
    → let left = blocks_view (drop l.block-index l.blocks) in map (arranged_view c) l.all.items ++ flat_map (block_by c l.repeats_none l.mode) (zip (l.is_after ∷ map has_later left) left) ≡ years_collapsed c l.repeats_none l.mode (blocks_view l.blocks)
