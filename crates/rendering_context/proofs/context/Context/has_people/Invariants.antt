use Rattle.std.proofs.Common.{◌≡◌, drop}
use Rattle.rendering_context.specs.Answering.{has_people}
use Rattle.rendering_context.specs.Views.{context_view}
use Rattle.rendering_context.proofs.context.Context.has_people.Given as goal

abbrev pub invariant-loop-variable : goal.invariant-loop-variable
invariant-loop-variable g l =
    has_people (context_view (g.E.EntryLike.answers l.entry) l.self) l.suppressed (drop l.variable-index l.variables) ≡ has_people (context_view (g.E.EntryLike.answers l.entry) l.self) l.suppressed l.variables
