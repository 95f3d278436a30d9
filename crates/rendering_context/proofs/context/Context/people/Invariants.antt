use Rattle.std.proofs.Common.{◌≡◌, take}
use Rattle.rendering_context.specs.Answering.{all_people}
use Rattle.rendering_context.specs.Views.{context_view}
use Rattle.rendering_people.specs.Views.{all_lent_answered_view}
use Rattle.rendering_context.proofs.context.Context.people.Given as goal

abbrev pub invariant-loop-variable : goal.invariant-loop-variable
invariant-loop-variable g l = all_lent_answered_view l.answered.items ≡ all_people (context_view (g.E.EntryLike.answers l.entry) l.self) l.suppressed (take l.variable-index l.variables)
