use Rattle.std.proofs.Common.{◌≡◌, ◌+◌, ◌<◌, ℕ, length, get_or, drop, nat_eq}
use Rattle.std.specs.List.{position_or_len}
use Rattle.driver_order.proofs.numbers.positions.Given as goal

abbrev pub invariant-loop-position : goal.invariant-loop-position
invariant-loop-position l =
    (length l.positions.items ≡ length l.order)
    × ((q : ℕ) → q < length l.order → get_or l.positions.items q 0 ≡ l.position + position_or_len (nat_eq q) (drop l.position l.order))
