use Rattle.std.proofs.Common.{◌≡◌, map, take}
use Rattle.rendering_people.specs.Raised.{raised_count}
use Rattle.rendering_people.proofs.raising.raised_counts.Given as goal

abbrev pub invariant-loop-count : goal.invariant-loop-count
invariant-loop-count l = l.raised.items ≡ map (raised_count l.others) (take l.count-index l.counts)
