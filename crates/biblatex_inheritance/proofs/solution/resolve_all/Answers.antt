use Rattle.std.proofs.Common.{ℕ, List, Vec, Global, get_or, Contains, ap, ◌+◌, sym, subst, ◌∙◌, arith}
use Rattle.std.proofs.lemmas.List.{take_all, length-map}
use Rattle.reference_graph.specs.References.{lists}
use Rattle.biblatex_inheritance.proofs.SolutionOrder.{below_order, not_itself}
use Rattle.biblatex_inheritance.proofs.SolutionAlong.{IsResolvedUpTo, references_there, resolved_more_there, all_resolved}
use Rattle.biblatex_inheritance.proofs.solution.resolve_all.Goals as goal

pub resolve_one-requires-clause-other : goal.resolve_one-requires-clause-other
resolve_one-requires-clause-other c has =
    let n = get_or c.args.order.now c.loop-number.number-index 0 in
    let refs = c.args.references.now in
    let long = length-map refs (λ (v : Vec ℕ Global). v.items) in
    let low = below_order (lists refs) c.args.order.now c.loop-number.number-index c.requires.order c.loop-number-test.true in
    let there = references_there refs n c.index-references-number.result (omega (arith, long, low)) c.index-references-number.is in
    not_itself (lists refs) n c.requires.none (subst (λ (xs : List ℕ). Contains xs n) (c.as_slice.ensures.value ∙ sym there) has)

pub loop-number-preserved : goal.loop-number-preserved
loop-number-preserved c =
    let n = get_or c.args.order.now c.loop-number.number-index 0 in
    let refs = c.args.references.now in
    let long = length-map refs (λ (v : Vec ℕ Global). v.items) in
    let low = below_order (lists refs) c.args.order.now c.loop-number.number-index c.requires.order c.loop-number-test.true in
    let there = references_there refs n c.index-references-number.result (omega (arith, long, low)) c.index-references-number.is in (
      ap (λ (n : ℕ). n + 1) c.loop-number.invariant.0,
      resolved_more_there c.args.entries.now.items c.loop-number.entries.items c.resolve_one.new.entries.items refs c.as_slice.result.now c.args.order.now c.loop-number.number-index c.loop-number.faults.items c.in_ok-faults-2.field-0
          c.requires.order c.requires.none (long ∙ c.requires.same) c.loop-number-test.true (there ∙ sym c.as_slice.ensures.value) c.loop-number.invariant.1 c.in_ok-faults-2.ensures,
    )

pub returns-clause-resolved : goal.returns-clause-resolved
returns-clause-resolved c =
    let long = length-map c.args.references.now (λ (v : Vec ℕ Global). v.items) in
    all_resolved c.args.entries.now.items c.loop-number.entries.items (lists c.args.references.now) c.args.order.now c.loop-number.faults.items c.requires.order (long ∙ c.requires.same)
    (subst (λ (xs : List ℕ). IsResolvedUpTo c.args.entries.now.items c.loop-number.entries.items (lists c.args.references.now) xs c.loop-number.faults.items) (take_all c.loop-number.number-index c.args.order.now (omega arith)) c.loop-number.invariant.1)

pub returns-clause-count : goal.returns-clause-count
returns-clause-count c = search arith
