use Rattle.std.proofs.Common.{◌≡◌, ◌++◌, drop, map}
use Rattle.driver_rounds.specs.Naming.{seen, seen_under, states_by}
use Rattle.driver_rounds.proofs.first_names.named_run.Given as goal

abbrev pub invariant-loop-cite : goal.invariant-loop-cite
invariant-loop-cite l = map seen l.named.items ++ map (seen_under (states_by l.states)) (drop l.cite-index l.run) ≡ map (seen_under (states_by l.states)) l.run
