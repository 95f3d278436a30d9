use Rattle.std.proofs.Common.{◌≡◌, length, take}
use Rattle.reference_graph.specs.References.{lists}
use Rattle.biblatex_suppliers.specs.Written.{written_view}
use Rattle.biblatex_suppliers.proofs.AlongOrder.{AreKnown}
use Rattle.biblatex_suppliers.proofs.along.supplies_along.Given as goal

abbrev pub invariant-loop-number : goal.invariant-loop-number
invariant-loop-number l = (length l.supplies.items ≡ length (written_view l.entries)) × AreKnown (written_view l.entries) (lists l.references) l.supplies.items (take l.number-index l.order)
