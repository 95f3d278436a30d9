use Rattle.std.proofs.Common.{◌≡◌, ◌↔◌, drop}
use Rattle.std.specs.List.{AllByRecursion}
use Rattle.rendering_taxonomy.specs.declared.variable.Variable.{Variable}
use Rattle.rendering_alike.proofs.answers.are_all_written_alike.Given as goal

abbrev pub invariant-loop-variable : goal.invariant-loop-variable
invariant-loop-variable g l =
    AllByRecursion (λ (v : Variable). (g.E.EntryLike.answers l.one).written v ≡ (g.E.EntryLike.answers l.other).written v) (drop l.variable-index l.variables)
    ↔ AllByRecursion (λ (v : Variable). (g.E.EntryLike.answers l.one).written v ≡ (g.E.EntryLike.answers l.other).written v) l.variables
