use Rattle.std.proofs.Common.{sym, ◌∙◌}
use Rattle.rendering_context.specs.Views.{context_view, answer_if}
use Rattle.rendering_context.proofs.ContextCases.{answer_asked, if_same}
use Rattle.rendering_context.proofs.context.Context.answer.Goals as goal

pub returns : goal.returns
returns g c =
    if_same c.answer_of.result answer_if _ _
    (answer_asked (context_view (g.E.EntryLike.answers c.args.entry.now) c.args.self.now) c.args.suppressed.now c.args.form c.args.variable c.asked_for.result
    (sym c.is_among.ensures ∙ c.if-is_among.false) (c.asked_for.ensures (g.E.EntryLike.answers c.args.entry.now)))
    c.answer_of.ensures
