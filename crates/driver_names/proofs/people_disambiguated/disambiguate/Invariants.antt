use Rattle.std.proofs.Common.{◌≡◌, List, drop, fold}
use Rattle.std.specs.List.{enumerate_from}
use Rattle.driver_names.specs.FirstNames.{disambiguated_at, disambiguated_names}
use Rattle.driver_names.specs.Names.{Member}
use Rattle.driver_names.specs.Namesakes.{AreCounts, all_people}
use Rattle.driver_names.proofs.people_disambiguated.disambiguate.Given as goal

abbrev pub invariant-loop-index : goal.invariant-loop-index
invariant-loop-index l =
    (ms : List Member) → AreCounts l.counts ms → fold (disambiguated_at l.rule (all_people ms)) l.names (enumerate_from l.index (drop l.index l.people)) ≡ disambiguated_names l.rule (all_people ms) l.people l.fn.names
