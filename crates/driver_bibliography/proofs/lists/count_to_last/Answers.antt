use Rattle.std.proofs.Common.{◌≡◌, length, sym, ◌∙◌, arith}
use Rattle.driver_bibliography.proofs.ListsReplaced.{trailing_begins, trailing_ends, trailing_goes_on, trailing_stops}
use Rattle.driver_bibliography.proofs.lists.count_to_last.Goals as goal

pub loop-count-init : goal.loop-count-init
loop-count-init c = (omega arith, trailing_begins c.args.parts.now (length c.args.parts.now) (omega arith))

pub returns-then-is_single_name-clause-after : goal.returns-then-is_single_name-clause-after
returns-then-is_single_name-clause-after c = λ some.
    trailing_stops c.args.parts.now c.loop-count.count c.index-parts-count.result c.loop-count-test.true c.loop-count.invariant.0 c.index-parts-count.is (sym c.is_single_name.ensures ∙ c.if-is_single_name.true) c.loop-count.invariant.1

pub loop-count-preserved : goal.loop-count-preserved
loop-count-preserved c = (
  omega (arith, c.loop-count.invariant.0),
  trailing_goes_on c.args.parts.now c.loop-count.count c.index-parts-count.result c.loop-count-test.true c.loop-count.invariant.0 c.index-parts-count.is (sym c.is_single_name.ensures ∙ c.if-is_single_name.false) c.loop-count.invariant.1,
)

pub returns-clause-after : goal.returns-clause-after
returns-clause-after c = λ some.
    let none : c.loop-count.count ≡ 0 = omega (arith, c.loop-count-test.false) in
    trailing_ends c.args.parts.now c.loop-count.count none c.loop-count.invariant.1 some
