use Rattle.std.proofs.Common.{◌≡◌, take}
use Rattle.std.specs.Prelude.{fold, length}
use Rattle.driver_requests.specs.Indices.{AreMarked, put_last}
use Rattle.driver_requests.proofs.order.put_each.Given as goal

abbrev pub invariant-loop-index : goal.invariant-loop-index
invariant-loop-index l = (l.order.items ≡ fold (put_last (length l.initial.stands)) l.initial.order.items (take l.index-index l.indices)) × AreMarked l.stands l.order.items
