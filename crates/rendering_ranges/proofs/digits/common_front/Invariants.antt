use Rattle.std.proofs.Common.{◌≡◌, ◌+◌, drop, nat_eq}
use Rattle.std.specs.List.{common_prefix_len}
use Rattle.rendering_ranges.proofs.digits.common_front.Given as goal

abbrev pub invariant-loop-i : goal.invariant-loop-i
invariant-loop-i l =
    l.i + common_prefix_len nat_eq (drop l.i l.first) (drop l.i l.second) ≡ common_prefix_len nat_eq l.first l.second
