use Rattle.std.proofs.Common.{◌≡◌, ◌++◌, drop, map, Vec}
use Rattle.std.specs.Global.{Global}
use Rattle.driver_rounds.specs.Naming.{seen, seen_under, states_by}
use Rattle.driver_rounds.specs.declared.cite.NumberedCite.{NumberedCite}
use Rattle.driver_rounds.proofs.first_names.named_runs.Given as goal

abbrev pub invariant-loop-run : goal.invariant-loop-run
invariant-loop-run l =
    map (λ (r : Vec NumberedCite Global). map seen r.items) l.named.items ++ map (λ (r : Vec NumberedCite Global). map (seen_under (states_by l.states)) r.items) (drop l.run-index l.runs)
    ≡ map (λ (r : Vec NumberedCite Global). map (seen_under (states_by l.states)) r.items) l.runs
