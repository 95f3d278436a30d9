use Rattle.std.proofs.Common.{ap, ◌∙◌}
use Rattle.rendering_context.specs.Answering.{as_text, text_written}
use Rattle.rendering_context.specs.Views.{context_view}
use Rattle.rendering_context.proofs.context.Context.text_answer.Goals as goal

pub returns : goal.returns
returns g c =
    let a = g.E.EntryLike.answers c.args.entry.now in
    let text = c.in_ok-text.ensures ∙ ap (text_written (context_view a c.args.self.now)) (c.asked_for.ensures a) in
    c.as_text.ensures ∙ (λ i. as_text (text i) (c.in_ok-answer.ensures i))
