use Rattle.std.proofs.Common.{◌≡◌, Some, map, take}
use Rattle.driver_disambiguation.specs.Numbered.{AreNumbers, number_of}
use Rattle.driver_disambiguation.proofs.numbers.numbers_of.Given as goal

abbrev pub invariant-loop-cite : goal.invariant-loop-cite
invariant-loop-cite l = AreNumbers l.texts × (map (number_of l.texts) (take l.cite-index l.cites) ≡ map Some l.numbers.items)
