use Rattle.std.proofs.Common.{arith}
use Rattle.reference_graph.specs.References.{lists}
use Rattle.reference_graph.specs.Search.{search_view}
use Rattle.reference_graph.proofs.SearchEnding.{ends_marked, ends_ordered}
use Rattle.reference_graph.proofs.SearchVectors.{lists_long}
use Rattle.reference_graph.proofs.order.reference_order.Goals as goal

pub returns-clause-circular : goal.returns-clause-circular
returns-clause-circular c =
    let inv = c.loop-number.invariant in
    let n = lists_long c.args.references.now in
    let past = c.loop-number-test.false in
    ends_marked (lists c.args.references.now) (search_view c.loop-number.search) inv.holds (λ v h. inv.met v (omega arith)) inv.free

pub returns-clause-order : goal.returns-clause-order
returns-clause-order c =
    let inv = c.loop-number.invariant in
    let n = lists_long c.args.references.now in
    let past = c.loop-number-test.false in
    ends_ordered (lists c.args.references.now) (search_view c.loop-number.search) inv.holds (λ v h. inv.met v (omega arith)) inv.free
