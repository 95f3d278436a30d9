use Rattle.std.proofs.Common.{◌≡◌, ◌+◌, ◌*◌, false, take, drop, Option, ℕ}
use Rattle.std.specs.List.{list_any}
use Rattle.literature.specs.Holding.{meaning}
use Rattle.literature.specs.Left.{taken_indices}
use Rattle.literature.specs.Views.{tree_view}
use Rattle.literature.proofs.TreesWeights.{heft, hefts}
use Rattle.literature.proofs.LeftIndices.{Finds, StandsFrom}
use Rattle.literature.proofs.+holding.Given as goal

abbrev pub invariant-holding::one_holds-loop-selector : goal.invariant-holding::one_holds-loop-selector
invariant-holding::one_holds-loop-selector l = list_any (λ x. (meaning (tree_view x)).at l.entry) (take l.selector-index l.selectors) ≡ false

abbrev pub invariant-holding::one_holds_above-loop-selector : goal.invariant-holding::one_holds_above-loop-selector
invariant-holding::one_holds_above-loop-selector l = list_any (λ x. (meaning (tree_view x)).above l.parents) (take l.selector-index l.selectors) ≡ false

abbrev pub invariant-node::Node::holds_at_one-loop-entry : goal.invariant-node::Node::holds_at_one-loop-entry
invariant-node::Node::holds_at_one-loop-entry l = list_any (meaning (tree_view l.self)).at (take l.entry-index l.entries) ≡ false

abbrev pub invariant-node::Node::free_index-loop-index : goal.invariant-node::Node::free_index-loop-index
invariant-node::Node::free_index-loop-index l =
    (found : Option ℕ) → StandsFrom l.index found → Finds (meaning (tree_view l.self)).at (taken_indices l.taken) l.index (drop l.index l.entries) found
    → Finds (meaning (tree_view l.self)).at (taken_indices l.taken) 0 l.entries found

abbrev pub decreases-node::Node::holds : goal.decreases-node::Node::holds
decreases-node::Node::holds l = 4 * heft l.self.now

abbrev pub decreases-node::Node::holds_at_one : goal.decreases-node::Node::holds_at_one
decreases-node::Node::holds_at_one l = 4 * heft l.self.now + 1

abbrev pub decreases-node::Node::free_index : goal.decreases-node::Node::free_index
decreases-node::Node::free_index l = 4 * heft l.self.now + 1

abbrev pub decreases-node::Node::holds_above : goal.decreases-node::Node::holds_above
decreases-node::Node::holds_above l = 4 * heft l.self.now + 2

abbrev pub decreases-holding::one_holds : goal.decreases-holding::one_holds
decreases-holding::one_holds l = 4 * hefts l.selectors.now + 1

abbrev pub decreases-holding::one_holds_above : goal.decreases-holding::one_holds_above
decreases-holding::one_holds_above l = 4 * hefts l.selectors.now + 3

abbrev pub decreases-holding::each_takes : goal.decreases-holding::each_takes
decreases-holding::each_takes l = 4 * hefts l.members.now + 2
