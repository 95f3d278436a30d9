use Rattle.std.proofs.Common.{◌≡◌, ℕ, List, Option, Vec, Global, length, ap, sym, ◌∙◌, arith}
use Rattle.std.proofs.lemmas.List.{length-map}
use Rattle.reference_graph.specs.References.{lists}
use Rattle.reference_graph.proofs.OrderUses.{none_circular}
use Rattle.biblatex_entries.specs.Entries.{source_view, sources_view}
use Rattle.biblatex_entries.specs.declared.entry.Entry.{Entry}
use Rattle.biblatex_inheritance.specs.declared.error.DateFault.{DateFault}
use Rattle.reference_graph.specs.Order.{IsOrder}
use Rattle.biblatex_inheritance.specs.Solution.{tables_view, IsOnly, AreResolved, NoneIsCircular}
use Rattle.biblatex_inheritance.proofs.SolutionOrder.{order_long}
use Rattle.biblatex_inheritance.proofs.SolutionAlong.{circular_below, not_marked, agree, fault_there}
use Rattle.biblatex_inheritance.proofs.solution.resolve.Goals as goal

agreed : (old new : List Entry) (refs : List (Vec ℕ Global)) (order : List ℕ) {faults : List (Option DateFault)} → IsOrder (lists refs) order → length refs ≡ length old → NoneIsCircular (lists refs) → AreResolved old new (lists refs) faults
    → IsOnly (sources_view old) (lists refs) (tables_view new)
agreed old new refs order o same none resolved other solves i low =
    let long = length-map refs (λ (v : Vec ℕ Global). v.items) in
    let many = length-map old (λ (e : Entry). source_view e) in
    agree (sources_view old) (lists refs) order (tables_view new) other o none (long ∙ (same ∙ sym many)) resolved.solved solves i low

pub returns-in-Some-clause-refused : goal.returns-in-Some-clause-refused
returns-in-Some-clause-refused c =
    let R = lists c.args.references.now in
    let long = length-map c.args.references.now (λ (v : Vec ℕ Global). v.items) in
    let many = length-map c.args.entries.items (λ (e : Entry). source_view e) in
    let is = (c.in_ok-order.ensures.circular c.in-Some.number).0 c.in-Some.ensures.0 in
    let low = circular_below R c.in-Some.number is in
    (omega (arith, long, many, low, c.requires), is, λ k less circular. not_marked R c.in_ok-order.order.circular k c.in_ok-order.ensures.circular (c.in-Some.ensures.1 k less) circular)

pub resolve_all-requires-clause-none : goal.resolve_all-requires-clause-none
resolve_all-requires-clause-none c = none_circular (lists c.args.references.now) c.in_ok-order.order.circular c.in_ok-order.ensures.circular c.in_default.ensures

pub returns-in-Some-first_fault-clause-refused : goal.returns-in-Some-first_fault-clause-refused
returns-in-Some-first_fault-clause-refused c = (
  none_circular (lists c.args.references.now) c.in_ok-order.order.circular c.in_ok-order.ensures.circular c.in_default.ensures,
  fault_there c.args.entries.items c.resolve_all.new.entries.items (lists c.args.references.now) c.in_ok-faults.field-0.faults.items c.deref.result.now c.in-Some-first_fault.fault c.deref.ensures.value c.in_ok-faults.ensures.resolved
      (λ other solves i low. agreed c.args.entries.items _ c.args.references.now c.in_ok-order.order.order c.in_ok-order.ensures.order c.requires
      (none_circular (lists c.args.references.now) c.in_ok-order.order.circular c.in_ok-order.ensures.circular c.in_default.ensures) c.in_ok-faults.ensures.resolved other solves i low) c.in-Some-first_fault.ensures,
)

pub returns-clause-only : goal.returns-clause-only
returns-clause-only c = agreed c.args.entries.items _ c.args.references.now c.in_ok-order.order.order c.in_ok-order.ensures.order c.requires
    (none_circular (lists c.args.references.now) c.in_ok-order.order.circular c.in_ok-order.ensures.circular c.in_default.ensures) c.in_ok-faults.ensures.resolved

pub returns-clause-acyclic : goal.returns-clause-acyclic
returns-clause-acyclic c = none_circular (lists c.args.references.now) c.in_ok-order.order.circular c.in_ok-order.ensures.circular c.in_default.ensures

pub returns-clause-count : goal.returns-clause-count
returns-clause-count c =
    let long = length-map c.args.references.now (λ (v : Vec ℕ Global). v.items) in
    c.in_ok-faults.ensures.count ∙ (ap length c.order-2.ensures ∙ (order_long (lists c.args.references.now) c.in_ok-order.order.order c.in_ok-order.ensures.order ∙ (long ∙ c.requires)))
