use Rattle.rendering_context.specs.Views.{context_view}
use Rattle.rendering_context.proofs.ContextCases.{has_asked, if_same}
use Rattle.rendering_context.proofs.context.Context.has_answer.Goals as goal

pub returns-in_default : goal.returns-in_default
returns-in_default g c =
    if_same c.is_answered.result (λ b. b) _ _
    (has_asked (context_view (g.E.EntryLike.answers c.args.entry.now) c.args.self.now) c.args.variable c.asked_for.result c.in_default.not-Name c.in_default.not-Date
    (c.asked_for.ensures (g.E.EntryLike.answers c.args.entry.now)))
    c.is_answered.ensures
