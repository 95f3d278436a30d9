use Rattle.std.proofs.Common.{◌≡◌, ◌+◌, ◌<◌, ℕ, length, get_or, drop, nat_eq}
use Rattle.std.specs.List.{position_or_len}
use Rattle.driver_requests.proofs.order.numbered.Given as goal

abbrev pub invariant-loop-i : goal.invariant-loop-i
invariant-loop-i l =
    (length l.numbers.items ≡ length l.order)
    × ((q : ℕ) → q < length l.order → get_or l.numbers.items q 0 ≡ l.offset + l.i + position_or_len (nat_eq q) (drop l.i l.order))
