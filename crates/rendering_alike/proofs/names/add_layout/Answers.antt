use Rattle.std.proofs.lemmas.Result.{on_ok_weaker}
use Rattle.rendering_style.specs.StyleViews.{style_view}
use Rattle.rendering_alike.specs.Naming.{names_view}
use Rattle.rendering_alike.proofs.NamesSteps.{layout_named}
use Rattle.rendering_alike.proofs.names.add_layout.Goals as goal

pub returns : goal.returns
returns c =
    on_ok_weaker c.add_nodes.result
    (layout_named (style_view c.args.style.now) c.args.layout.now (names_view c.args.found.now) (names_view c.add_nodes.new.found) c.deref.result.now c.deref.ensures.value)
    c.add_nodes.ensures
