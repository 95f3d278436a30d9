use Rattle.std.proofs.Common.{[], ◌∷◌, ◌∙◌, None}
use Rattle.std.proofs.lemmas.Result.{on_ok_weaker}
use Rattle.rendering_context.specs.Views.{context_view}
use Rattle.rendering_leaves.specs.Parts.{in_text}
use Rattle.rendering_leaves.specs.Values.{text_manner, text_pieces}
use Rattle.rendering_leaves.specs.Views.{setting_view}
use Rattle.rendering_leaves.proofs.StatesAppended.{append-page}
use Rattle.rendering_page.specs.Pieces.{append_pieces, normal}
use Rattle.rendering_style.specs.Nodes.{of_term}
use Rattle.rendering_style.specs.Views.{text_look_view}
use Rattle.rendering_leaves.proofs.text.push_term.Goals as goal

pub returns : goal.returns
returns c = λ a.
    let ctx = context_view a c.args.context.now in
    let s = setting_view c.args.setting.now in
    let look = text_look_view c.args.look.now in
    on_ok_weaker c.append_text.result
    (λ e. append-page ctx (text_pieces ctx s [] (of_term c.args.term c.args.form c.args.plural) look) c.args.state.now _ _ c.state.view_is
    (e ∙ (λ i. append_pieces ctx.quotes (in_text ctx s None look (normal (text_manner s.manner look) (c.term_text-text.ensures i) ∷ [])) c.state.inside.page)))
    (c.append_text.ensures a)
