use Rattle.std.proofs.Common.{◌≡◌, ◌++◌, map, drop}
use Rattle.driver_disambiguation.specs.Gathered.{keyed}
use Rattle.driver_disambiguation.proofs.year_suffixes.keyed.Given as goal

abbrev pub invariant-loop-cite : goal.invariant-loop-cite
invariant-loop-cite l = l.keyed.items ++ map keyed (drop l.cite-index l.cites) ≡ map keyed l.cites
