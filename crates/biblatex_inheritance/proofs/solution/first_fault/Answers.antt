use Rattle.std.proofs.Common.{None, sym, ◌∙◌}
use Rattle.std.proofs.lemmas.Option.{slice_get-get_or}
use Rattle.biblatex_inheritance.proofs.SolutionSteps.{found_first}
use Rattle.biblatex_inheritance.proofs.solution.first_fault.Goals as goal

pub returns-then-is_some : goal.returns-then-is_some
returns-then-is_some c =
    found_first c.args.faults.now c.loop-fault.fault-index _ (sym c.is_some.ensures ∙ c.if-is_some.true) (slice_get-get_or c.args.faults.now c.loop-fault.fault-index None c.loop-fault-test.true) c.loop-fault.invariant
