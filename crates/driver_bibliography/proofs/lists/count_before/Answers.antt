use Rattle.std.proofs.Common.{refl, sym, ◌∙◌, arith}
use Rattle.driver_bibliography.proofs.ListsReplaced.{leading_begins, leading_ends, leading_goes_on, leading_stops, passed_single}
use Rattle.driver_bibliography.proofs.lists.count_before.Goals as goal

pub loop-count-init : goal.loop-count-init
loop-count-init c = record { within = omega arith; leading = leading_begins c.args.parts.now; others = refl }

pub returns-then-is_single_name-clause-before : goal.returns-then-is_single_name-clause-before
returns-then-is_single_name-clause-before c =
    leading_stops c.args.parts.now c.loop-count.count c.index-parts-count.result c.loop-count-test.true c.index-parts-count.is (sym c.is_single_name.ensures ∙ c.if-is_single_name.true) c.loop-count.invariant.leading

pub loop-count-preserved : goal.loop-count-preserved
loop-count-preserved c = record {
  within = omega (arith, c.loop-count-test.true);
  leading = leading_goes_on c.args.parts.now c.loop-count.count c.index-parts-count.result c.loop-count-test.true c.index-parts-count.is (sym c.is_single_name.ensures ∙ c.if-is_single_name.false) c.loop-count.invariant.leading;
  others = passed_single c.args.parts.now c.loop-count.count c.index-parts-count.result _ c.loop-count-test.true c.index-parts-count.is (sym c.is_single_name.ensures ∙ c.if-is_single_name.false) c.loop-count.invariant.others;
}

pub returns-clause-before : goal.returns-clause-before
returns-clause-before c = leading_ends c.args.parts.now c.loop-count.count c.loop-count-test.false c.loop-count.invariant.leading
