use Rattle.std.proofs.Common.{map, min, get_or, refl, sym, ap, ◌∙◌, arith}
use Rattle.rendering_style.specs.Levels.{levels}
use Rattle.rendering_style.specs.Tables.{height_of}
use Rattle.rendering_style.specs.Views.{macro_view, nodes_view}
use Rattle.rendering_style.specs.declared.parts.Macro.{Macro}
use Rattle.rendering_style.proofs.TablesHeights.{heights_written, heights_whole}
use Rattle.rendering_style.proofs.levels.heights_of.Goals as goal

pub loop-index-preserved : goal.loop-index-preserved
loop-index-preserved c =
    heights_written c.args.table.now c.args.macros.now c.loop-index.heights.items c.args.order.now c.loop-index.index-index (get_or c.args.order.now c.loop-index.index-index 0) c.levels.result c.index-macros-index.result
    c.requires.table c.requires.order c.requires.none c.loop-index-test.true refl c.index-macros-index.is c.loop-index.invariant
    (c.levels.ensures
    ∙ ((λ i. min (levels (height_of c.args.table.now (c.deref-in-loop-index.ensures.value i)) (nodes_view (c.deref.ensures.value i))) 201)
    ∙ ap (λ (m : Macro). min (levels (height_of c.args.table.now c.loop-index.heights.items) (nodes_view m.nodes.items)) 201) (sym c.index-macros-index.is)))

pub returns : goal.returns
returns c = heights_whole c.loop-index.heights.items (map macro_view c.args.macros.now) c.args.order.now c.loop-index.index-index c.requires.order (omega arith) c.loop-index.invariant
