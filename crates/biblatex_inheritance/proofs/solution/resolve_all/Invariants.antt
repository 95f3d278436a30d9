use Rattle.std.proofs.Common.{◌≡◌, take}
use Rattle.reference_graph.specs.References.{lists}
use Rattle.biblatex_inheritance.proofs.SolutionAlong.{IsResolvedUpTo}
use Rattle.biblatex_inheritance.proofs.solution.resolve_all.Given as goal

abbrev pub invariant-loop-number : goal.invariant-loop-number
invariant-loop-number l = (l.count ≡ l.number-index) × IsResolvedUpTo l.fn.entries.items l.entries.items (lists l.references) (take l.number-index l.order) l.faults.items
