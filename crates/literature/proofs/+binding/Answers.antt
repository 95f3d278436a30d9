use Rattle.std.proofs.Common.{◌∙◌, sym, ap, arith}
use Rattle.laws.specs.Borrowed.{borrowed}
use Rattle.literature.specs.Holding.{meaning}
use Rattle.literature.specs.Bindings.{binds}
use Rattle.literature.specs.Views.{tree_view}
use Rattle.literature.proofs.BindingsAdded.{search_finds, search_goes_on, search_ends, choice_adds, choice_adds_above, members_add, name_adds, name_withdrawn, ancestry_withdrawn}
use Rattle.literature.proofs.HoldingTurns.{tries_find, tries_add, tries_go_on, borrowed_at, within, turns_withdrawn, turns_taken}
use Rattle.literature.proofs.+binding.Goals as goal

pub node::Node::bind-returns-in-Binding : goal.node::Node::bind-returns-in-Binding
node::Node::bind-returns-in-Binding t c =
    name_adds c.args.self.now c.in-Binding.name c.in-Binding.bound _ c.args.entry.now c.as_str.result.now c.bind_name.result c.args.found.now.items c.bind_name.new.found.items c.in-Binding.is c.deref-in-Binding.ensures c.as_str.ensures.value c.bind_name.ensures

pub node::Node::bind-returns-in-Alternatives : goal.node::Node::bind-returns-in-Alternatives
node::Node::bind-returns-in-Alternatives t c =
    choice_adds c.args.self.now c.in-Alternatives.sides c.args.entry.now _ c.bind_first_side.result c.args.found.now.items c.bind_first_side.new.found.items c.in-Alternatives.is c.as_slice-in-Alternatives.ensures.value c.bind_first_side.ensures

pub node::Node::bind_above-returns-in-Alternatives : goal.node::Node::bind_above-returns-in-Alternatives
node::Node::bind_above-returns-in-Alternatives t c =
    choice_adds_above c.args.self.now c.in-Alternatives.sides c.args.parents.now _ c.bind_first_side_above.result c.args.found.now.items c.bind_first_side_above.new.found.items c.in-Alternatives.is c.as_slice.ensures.value c.bind_first_side_above.ensures

pub node::Node::bind_above-returns-in-Multi : goal.node::Node::bind_above-returns-in-Multi
node::Node::bind_above-returns-in-Multi t c =
    members_add c.args.self.now c.in-Multi.members c.args.parents.now _ c.bind_each.result c.args.found.now.items c.bind_each.new.found.items c.in-Multi.is c.as_slice-in-Multi.ensures.value c.bind_each.ensures

pub binding::bind_ancestry-returns-then-not-holds : goal.binding::bind_ancestry-returns-then-not-holds
binding::bind_ancestry-returns-then-not-holds t c =
    ancestry_withdrawn _ _ _ _ _ _ c.args.found.now.items c.bind.new.found.items c.bind_above.new.found.items c.truncate.new.self.items c.len-before.result c.in_ok-bind.field-0 c.in_ok-holds.holds
    (omega (arith, c.len-before.ensures, c.args.found.now.ok.0)) c.in_ok-bind.ensures c.if-not-branch.false c.in_ok-holds.ensures (ap (meaning (tree_view c.args.above.now)).above c.parents.ensures) c.truncate.ensures.items c.if-not-holds.true

pub binding::bind_each-returns-in-None : goal.binding::bind_each-returns-in-None
binding::bind_each-returns-in-None t c =
    turns_withdrawn c.args.members.now c.loop-member.member-index c.member-item.result c.args.parents.now c.as_slice.result.now c.loop-member.left.items c.in_ok-index.field-0
    c.args.found.now.items c.loop-member.found.items c.bind_first.new.found.items c.truncate.new.self.items c.len-before.result c.loop-member.invariant c.loop-member-test.true c.member-item.is
    c.as_slice.ensures.value c.in_ok-index.ensures.taken c.in-None.is c.in_ok-index.ensures.added (omega (arith, c.len-before.ensures, c.args.found.now.ok.0)) c.truncate.ensures.items

pub binding::bind_each-loop-member-preserved : goal.binding::bind_each-loop-member-preserved
binding::bind_each-loop-member-preserved t c =
    turns_taken c.args.members.now c.loop-member.member-index c.member-item.result c.args.parents.now c.as_slice.result.now c.loop-member.left.items c.remove.new.self.items c.in_ok-index.field-0 c.in-Some.index
    c.args.found.now.items c.loop-member.found.items c.bind_first.new.found.items c.loop-member.invariant c.loop-member-test.true c.member-item.is
    c.as_slice.ensures.value c.in_ok-index.ensures.taken c.in-Some.is c.in_ok-index.ensures.added c.remove.ensures.items

pub node::Node::bind_first-returns-then-branch-clause-taken : goal.node::Node::bind_first-returns-then-branch-clause-taken
node::Node::bind_first-returns-then-branch-clause-taken t c =
    tries_find (meaning (tree_view c.args.self.now)).at (binds (tree_view c.args.self.now)).at (borrowed c.args.entries.now) c.loop-index.index c.index-entries-index.result.now c.args.found.now.items c.loop-index.found.items c.loop-index.invariant
    (within c.args.entries.now c.loop-index.index c.loop-index-test.true) (borrowed_at c.args.entries.now c.loop-index.index c.index-entries-index.result c.index-entries-index.is c.loop-index-test.true)
    (sym c.in_ok-bind.ensures.answered ∙ c.if-branch.true)

pub node::Node::bind_first-returns-then-branch-clause-added : goal.node::Node::bind_first-returns-then-branch-clause-added
node::Node::bind_first-returns-then-branch-clause-added t c =
    tries_add (meaning (tree_view c.args.self.now)).at (binds (tree_view c.args.self.now)).at (borrowed c.args.entries.now) c.loop-index.index c.index-entries-index.result.now c.args.found.now.items c.loop-index.found.items c.bind.new.found.items c.in_ok-bind.field-0 c.loop-index.invariant
    (within c.args.entries.now c.loop-index.index c.loop-index-test.true) (borrowed_at c.args.entries.now c.loop-index.index c.index-entries-index.result c.index-entries-index.is c.loop-index-test.true)
    c.in_ok-bind.ensures (sym c.in_ok-bind.ensures.answered ∙ c.if-branch.true)

pub node::Node::bind_first-loop-index-preserved : goal.node::Node::bind_first-loop-index-preserved
node::Node::bind_first-loop-index-preserved t c =
    tries_go_on (meaning (tree_view c.args.self.now)).at (binds (tree_view c.args.self.now)).at (borrowed c.args.entries.now) c.loop-index.index c.index-entries-index.result.now c.args.found.now.items c.loop-index.found.items c.bind.new.found.items c.in_ok-bind.field-0 c.loop-index.invariant
    (within c.args.entries.now c.loop-index.index c.loop-index-test.true) (borrowed_at c.args.entries.now c.loop-index.index c.index-entries-index.result c.index-entries-index.is c.loop-index-test.true)
    c.in_ok-bind.ensures (sym c.in_ok-bind.ensures.answered ∙ c.if-branch.false)

pub node::Node::bind_name-returns-then-not-holds : goal.node::Node::bind_name-returns-then-not-holds
node::Node::bind_name-returns-then-not-holds t c =
    name_withdrawn _ _ _ c.args.found.now.items c.push.new.self.items c.bind.new.found.items c.truncate.new.self.items _ c.len-before.result c.in_ok-holds.holds
    (omega (arith, c.len-before.ensures, c.args.found.now.ok.0)) c.in_ok-push.ensures.items c.in_ok-holds.ensures c.truncate.ensures.items c.if-not-holds.true

pub node::Node::bind_at_first-returns-then-branch : goal.node::Node::bind_at_first-returns-then-branch
node::Node::bind_at_first-returns-then-branch t c =
    search_finds (meaning (tree_view c.args.self.now)).at (binds (tree_view c.args.self.now)).at c.args.entries.now c.loop-entry.entry-index c.entry-item.result c.args.found.now.items c.loop-entry.found.items c.bind.new.found.items c.in_ok-bind.field-0 c.loop-entry.invariant c.loop-entry-test.true c.entry-item.is c.in_ok-bind.ensures c.if-branch.true

pub node::Node::bind_at_first-loop-entry-preserved : goal.node::Node::bind_at_first-loop-entry-preserved
node::Node::bind_at_first-loop-entry-preserved t c =
    search_goes_on (meaning (tree_view c.args.self.now)).at (binds (tree_view c.args.self.now)).at c.args.entries.now c.loop-entry.entry-index c.entry-item.result c.args.found.now.items c.loop-entry.found.items c.bind.new.found.items c.in_ok-bind.field-0 c.loop-entry.invariant c.loop-entry-test.true c.entry-item.is c.in_ok-bind.ensures c.if-branch.false

pub node::Node::bind_at_first-returns : goal.node::Node::bind_at_first-returns
node::Node::bind_at_first-returns t c =
    search_ends (meaning (tree_view c.args.self.now)).at (binds (tree_view c.args.self.now)).at c.args.entries.now c.loop-entry.entry-index c.args.found.now.items c.loop-entry.found.items c.loop-entry.invariant c.loop-entry-test.false

pub binding::bind_first_side-returns-then-branch : goal.binding::bind_first_side-returns-then-branch
binding::bind_first_side-returns-then-branch t c =
    search_finds (λ x. (meaning (tree_view x)).at c.args.entry.now) (λ x. (binds (tree_view x)).at c.args.entry.now) c.args.selectors.now c.loop-selector.selector-index c.selector-item.result c.args.found.now.items c.loop-selector.found.items c.bind.new.found.items c.in_ok-bind.field-0 c.loop-selector.invariant c.loop-selector-test.true c.selector-item.is c.in_ok-bind.ensures c.if-branch.true

pub binding::bind_first_side-loop-selector-preserved : goal.binding::bind_first_side-loop-selector-preserved
binding::bind_first_side-loop-selector-preserved t c =
    search_goes_on (λ x. (meaning (tree_view x)).at c.args.entry.now) (λ x. (binds (tree_view x)).at c.args.entry.now) c.args.selectors.now c.loop-selector.selector-index c.selector-item.result c.args.found.now.items c.loop-selector.found.items c.bind.new.found.items c.in_ok-bind.field-0 c.loop-selector.invariant c.loop-selector-test.true c.selector-item.is c.in_ok-bind.ensures c.if-branch.false

pub binding::bind_first_side-returns : goal.binding::bind_first_side-returns
binding::bind_first_side-returns t c =
    search_ends (λ x. (meaning (tree_view x)).at c.args.entry.now) (λ x. (binds (tree_view x)).at c.args.entry.now) c.args.selectors.now c.loop-selector.selector-index c.args.found.now.items c.loop-selector.found.items c.loop-selector.invariant c.loop-selector-test.false

pub binding::bind_first_side_above-returns-then-branch : goal.binding::bind_first_side_above-returns-then-branch
binding::bind_first_side_above-returns-then-branch t c =
    search_finds (λ x. (meaning (tree_view x)).above c.args.parents.now) (λ x. (binds (tree_view x)).above c.args.parents.now) c.args.selectors.now c.loop-selector.selector-index c.selector-item.result c.args.found.now.items c.loop-selector.found.items c.bind_above.new.found.items c.in_ok-bind_above.field-0 c.loop-selector.invariant c.loop-selector-test.true c.selector-item.is c.in_ok-bind_above.ensures c.if-branch.true

pub binding::bind_first_side_above-loop-selector-preserved : goal.binding::bind_first_side_above-loop-selector-preserved
binding::bind_first_side_above-loop-selector-preserved t c =
    search_goes_on (λ x. (meaning (tree_view x)).above c.args.parents.now) (λ x. (binds (tree_view x)).above c.args.parents.now) c.args.selectors.now c.loop-selector.selector-index c.selector-item.result c.args.found.now.items c.loop-selector.found.items c.bind_above.new.found.items c.in_ok-bind_above.field-0 c.loop-selector.invariant c.loop-selector-test.true c.selector-item.is c.in_ok-bind_above.ensures c.if-branch.false

pub binding::bind_first_side_above-returns : goal.binding::bind_first_side_above-returns
binding::bind_first_side_above-returns t c =
    search_ends (λ x. (meaning (tree_view x)).above c.args.parents.now) (λ x. (binds (tree_view x)).above c.args.parents.now) c.args.selectors.now c.loop-selector.selector-index c.args.found.now.items c.loop-selector.found.items c.loop-selector.invariant c.loop-selector-test.false
