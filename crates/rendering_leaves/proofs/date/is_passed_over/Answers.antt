use Rattle.std.proofs.Common.{Bool, not, ◌&&◌, sym, ap, ◌∙◌}
use Rattle.rendering_context.specs.Views.{context_view}
use Rattle.rendering_leaves.specs.Values.{prints_year}
use Rattle.rendering_style.specs.Views.{date_node_view}
use Rattle.rendering_leaves.proofs.date.is_passed_over.Goals as goal

pub returns-then-is_published : goal.returns-then-is_published
returns-then-is_published c = λ a.
    let ctx = context_view a c.args.context.now in
    let d = date_node_view c.args.node.now in
    ap not (c.prints_year.ensures a) ∙ ap (λ (b : Bool). b && not (prints_year ctx d)) (sym c.if-is_published.true)
