use Rattle.std.proofs.Common.{◌≡◌, map, take}
use Rattle.rendering_sorting.proofs.values.first_parts.Given as goal

abbrev pub invariant-loop-number : goal.invariant-loop-number
invariant-loop-number l = l.all.items ≡ map (λ n. n.0) (take l.number-index l.numbers)
