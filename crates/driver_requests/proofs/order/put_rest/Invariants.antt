use Rattle.std.proofs.Common.{◌≡◌}
use Rattle.std.specs.Prelude.{fold, length}
use Rattle.std.specs.List.{range_with_len}
use Rattle.driver_requests.specs.Indices.{AreMarked, put_last}
use Rattle.driver_requests.proofs.order.put_rest.Given as goal

abbrev pub invariant-loop-index : goal.invariant-loop-index
invariant-loop-index l = (l.order.items ≡ fold (put_last (length l.initial.stands)) l.initial.order.items (range_with_len 0 l.index)) × AreMarked l.stands l.order.items
