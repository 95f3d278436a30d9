use Rattle.std.proofs.Common.{◌↔◌, drop}
use Rattle.std.specs.List.{AllByRecursion}
use Rattle.rendering_nodes.specs.Named.{AnswerAlike}
use Rattle.rendering_alike.proofs.answers.answer_all_alike.Given as goal

abbrev pub invariant-loop-variable : goal.invariant-loop-variable
invariant-loop-variable g l =
    AllByRecursion (AnswerAlike (g.E.EntryLike.answers l.one) (g.E.EntryLike.answers l.other)) (drop l.variable-index l.variables)
    ↔ AllByRecursion (AnswerAlike (g.E.EntryLike.answers l.one) (g.E.EntryLike.answers l.other)) l.variables
