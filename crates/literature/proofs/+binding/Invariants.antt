use Rattle.std.proofs.Common.{◌+◌, ◌*◌}
use Rattle.laws.specs.Borrowed.{borrowed}
use Rattle.literature.specs.Holding.{meaning}
use Rattle.literature.specs.Bindings.{binds}
use Rattle.literature.specs.Views.{tree_view}
use Rattle.literature.proofs.BindingsAdded.{IsSearched}
use Rattle.literature.proofs.HoldingTurns.{IsTried, IsInTurn}
use Rattle.literature.proofs.TreesWeights.{heft, hefts}
use Rattle.literature.proofs.+binding.Given as goal

abbrev pub decreases-node::Node::bind : goal.decreases-node::Node::bind
decreases-node::Node::bind l = 4 * heft l.self.now

abbrev pub decreases-node::Node::bind_name : goal.decreases-node::Node::bind_name
decreases-node::Node::bind_name l = 4 * heft l.self.now + 1

abbrev pub decreases-node::Node::bind_at_first : goal.decreases-node::Node::bind_at_first
decreases-node::Node::bind_at_first l = 4 * heft l.self.now + 1

abbrev pub decreases-node::Node::bind_first : goal.decreases-node::Node::bind_first
decreases-node::Node::bind_first l = 4 * heft l.self.now + 1

abbrev pub decreases-node::Node::bind_above : goal.decreases-node::Node::bind_above
decreases-node::Node::bind_above l = 4 * heft l.self.now + 2

abbrev pub decreases-binding::bind_ancestry : goal.decreases-binding::bind_ancestry
decreases-binding::bind_ancestry l = 4 * (heft l.of.now + heft l.above.now) + 3

abbrev pub decreases-binding::bind_first_side : goal.decreases-binding::bind_first_side
decreases-binding::bind_first_side l = 4 * hefts l.selectors.now + 1

abbrev pub decreases-binding::bind_first_side_above : goal.decreases-binding::bind_first_side_above
decreases-binding::bind_first_side_above l = 4 * hefts l.selectors.now + 3

abbrev pub decreases-binding::bind_each : goal.decreases-binding::bind_each
decreases-binding::bind_each l = 4 * hefts l.members.now + 3

abbrev pub invariant-binding::bind_first_side-loop-selector : goal.invariant-binding::bind_first_side-loop-selector
invariant-binding::bind_first_side-loop-selector l =
    IsSearched (λ x. (meaning (tree_view x)).at l.entry) (λ x. (binds (tree_view x)).at l.entry) l.selectors l.selector-index l.initial.found.items l.found.items

abbrev pub invariant-binding::bind_first_side_above-loop-selector : goal.invariant-binding::bind_first_side_above-loop-selector
invariant-binding::bind_first_side_above-loop-selector l =
    IsSearched (λ x. (meaning (tree_view x)).above l.parents) (λ x. (binds (tree_view x)).above l.parents) l.selectors l.selector-index l.initial.found.items l.found.items

abbrev pub invariant-node::Node::bind_at_first-loop-entry : goal.invariant-node::Node::bind_at_first-loop-entry
invariant-node::Node::bind_at_first-loop-entry l =
    IsSearched (meaning (tree_view l.self)).at (binds (tree_view l.self)).at l.entries l.entry-index l.initial.found.items l.found.items

abbrev pub invariant-node::Node::bind_first-loop-index : goal.invariant-node::Node::bind_first-loop-index
invariant-node::Node::bind_first-loop-index l =
    IsTried (meaning (tree_view l.self)).at (binds (tree_view l.self)).at (borrowed l.entries) l.index l.initial.found.items l.found.items

abbrev pub invariant-binding::bind_each-loop-member : goal.invariant-binding::bind_each-loop-member
invariant-binding::bind_each-loop-member l = IsInTurn l.members l.member-index l.parents (borrowed l.left.items) l.initial.found.items l.found.items
