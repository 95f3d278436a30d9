use Rattle.std.proofs.Common.{arith, sym, ◌∙◌, inl, inr}
use Rattle.driver_bibliography.proofs.RepeatsSteps.{common_more, common_no_more, common_none}
use Rattle.driver_bibliography.proofs.repeats.common_len.Goals as goal

pub returns-then-not-is_same_name : goal.returns-then-not-is_same_name
returns-then-not-is_same_name c =
    common_no_more c.args.alone c.args.names.now c.args.last.now c.loop-count.count c.index-names-count.result c.index-last-count.result c.loop-count-test.true c.if-count-last.true c.index-names-count.is c.index-last-count.is _
    (sym c.is_same_name.ensures ∙ c.if-not-is_same_name.true) c.loop-count.invariant.same

pub loop-count-preserved : goal.loop-count-preserved
loop-count-preserved c = record {
  within = omega (arith, c.loop-count-test.true);
  within_last = omega (arith, c.if-count-last.true);
  same = common_more c.args.alone c.args.names.now c.args.last.now c.loop-count.count c.index-names-count.result c.index-last-count.result c.loop-count-test.true c.if-count-last.true c.index-names-count.is c.index-last-count.is _
      (sym c.is_same_name.ensures ∙ c.if-not-is_same_name.false) c.loop-count.invariant.same;
}

pub returns-else-count-last : goal.returns-else-count-last
returns-else-count-last c = common_none c.args.alone c.args.names.now c.args.last.now c.loop-count.count _ (inr c.if-count-last.false) c.loop-count.invariant.same

pub returns-after-loop-count : goal.returns-after-loop-count
returns-after-loop-count c = common_none c.args.alone c.args.names.now c.args.last.now c.loop-count.count _ (inl c.loop-count-test.false) c.loop-count.invariant.same
