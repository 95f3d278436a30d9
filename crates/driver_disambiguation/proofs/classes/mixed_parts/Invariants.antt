use Rattle.std.proofs.Common.{◌≡◌, map, take}
use Rattle.std.specs.List.{flat_map}
use Rattle.driver_disambiguation.specs.Grouping.{if_mixed, under}
use Rattle.driver_disambiguation.proofs.classes.mixed_parts.Given as goal

abbrev pub invariant-loop-number : goal.invariant-loop-number
invariant-loop-number l = map (λ p. p.items) l.parts.items ≡ flat_map if_mixed (map (under l.groups) (take l.number-index l.numbers))
