use Rattle.std.proofs.Common.{◌≡◌, ◌++◌, cond, length, map, take, drop}
use Rattle.std.specs.List.{zip}
use Rattle.driver_names.proofs.names_shared.set_where.Given as goal

abbrev pub invariant-loop-at : goal.invariant-loop-at
invariant-loop-at l =
    (l.numbers.items ≡ map (λ p. cond p.0 l.number p.1) (take l.at (zip l.wanted l.fn.numbers.items)) ++ drop l.at l.fn.numbers.items) × (length l.numbers.items ≡ length l.fn.numbers.items)
