use Rattle.std.proofs.Common.{◌∙◌, sym, ap, Some, None, arith}
use Rattle.literature.specs.Holding.{meaning}
use Rattle.literature.specs.Left.{taken_indices}
use Rattle.literature.specs.Views.{tree_view}
use Rattle.literature.proofs.HoldingMembers.{choice_at, choice_above}
use Rattle.literature.proofs.LeftIndices.{found_at, found_at_end}
use Rattle.literature.proofs.+holding.Goals as goal

pub node::Node::holds-returns-in-Alternatives : goal.node::Node::holds-returns-in-Alternatives
node::Node::holds-returns-in-Alternatives t c =
    choice_at c.args.self.now c.in-Alternatives.sides c.args.entry.now _ c.one_holds.result c.in-Alternatives.is c.as_slice-in-Alternatives.ensures.value c.one_holds.ensures

pub node::Node::holds_above-returns-in-Alternatives : goal.node::Node::holds_above-returns-in-Alternatives
node::Node::holds_above-returns-in-Alternatives t c =
    choice_above c.args.self.now c.in-Alternatives.sides c.args.parents.now _ c.one_holds_above.result c.in-Alternatives.is c.as_slice.ensures.value c.one_holds_above.ensures

pub node::Node::free_index-returns-then-holds : goal.node::Node::free_index-returns-then-holds
node::Node::free_index-returns-then-holds t c =
    c.loop-index.invariant (Some c.loop-index.index) (omega arith)
    (found_at (meaning (tree_view c.args.self.now)).at (taken_indices c.args.taken) c.loop-index.index c.args.entries.now c.index-entries-index.result c.loop-index-test.true
    (sym c.is_taken.ensures ∙ c.if-not-is_taken.true) (ap (meaning (tree_view c.args.self.now)).at (sym c.index-entries-index.is) ∙ sym c.holds.ensures ∙ c.if-holds.true))

pub node::Node::free_index-returns : goal.node::Node::free_index-returns
node::Node::free_index-returns t c =
    c.loop-index.invariant None tt (found_at_end (meaning (tree_view c.args.self.now)).at (taken_indices c.args.taken) c.loop-index.index c.args.entries.now c.loop-index-test.false)
