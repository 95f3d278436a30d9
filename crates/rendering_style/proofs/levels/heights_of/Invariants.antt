use Rattle.std.proofs.Common.{map, take}
use Rattle.rendering_style.specs.Views.{macro_view}
use Rattle.rendering_style.proofs.TablesHeights.{AreHeightsOf}
use Rattle.rendering_style.proofs.levels.heights_of.Given as goal

abbrev pub invariant-loop-index : goal.invariant-loop-index
invariant-loop-index l = AreHeightsOf l.heights.items (map macro_view l.macros) (take l.index-index l.order)
