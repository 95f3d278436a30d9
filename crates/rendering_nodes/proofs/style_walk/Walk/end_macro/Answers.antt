use Rattle.std.proofs.Common.{Some, ap}
use Rattle.std.proofs.lemmas.Result.{on_ok_weaker}
use Rattle.rendering_leaves.specs.Values.{quote_after, text_manner}
use Rattle.rendering_leaves.specs.Views.{setting_view}
use Rattle.rendering_page.specs.Pages.{Frame}
use Rattle.rendering_page.specs.Views as views
use Rattle.rendering_style.specs.Views.{text_look_view}
use Rattle.rendering_tree.specs.Metas as metas
use Rattle.rendering_nodes.specs.Content.{macro_frame}
use Rattle.rendering_nodes.specs.Views.{walk_context}
use Rattle.rendering_nodes.proofs.ElementsSteps.{left_by}
use Rattle.rendering_nodes.proofs.style_walk.Walk.end_macro.Goals as goal

pub returns : goal.returns
returns c = λ a.
    let s = setting_view c.args.setting.now in
    let look = text_look_view c.args.look.now in
    let context = walk_context a c.args.self.now in
    on_ok_weaker c.end_element.result
    (left_by context (record (views.frame_view c.frame_in-frame.result) { meta = Some metas.Text }) (macro_frame s look)
    (quote_after context (views.manner_view c.text_manner-manner.result) look.quotes s.inside_quotes) (quote_after context (text_manner s.manner look) look.quotes s.inside_quotes)
    _ c.push_quote_after.new.state c.args.state.now c.end_element.new.self
    c.state.view_is (c.in_ok-push_quote_after.ensures a) (ap (λ m. quote_after context m look.quotes s.inside_quotes) c.text_manner-manner.ensures)
    (ap (λ (f : Frame). record f { meta = Some metas.Text }) c.frame_in-frame.ensures))
    (c.end_element.ensures metas.Text)
