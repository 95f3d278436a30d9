use Rattle.std.proofs.lemmas.Result.{on_ok_weaker}
use Rattle.rendering_context.specs.Views.{context_view}
use Rattle.rendering_leaves.specs.Values.{quote_after}
use Rattle.rendering_leaves.proofs.StatesAppended.{append-page}
use Rattle.rendering_page.specs.Views.{manner_view}
use Rattle.rendering_leaves.proofs.quotes.push_quote_after.Goals as goal

pub returns : goal.returns
returns c = λ a.
    let ctx = context_view a c.args.context.now in
    on_ok_weaker c.append_after.result
    (λ e. append-page ctx (quote_after ctx (manner_view c.args.manner) c.args.quotes c.args.inside) c.args.state.now _ _ c.state.view_is e)
    (c.append_after.ensures a)
