use Rattle.std.proofs.Common.{sym, ◌∙◌}
use Rattle.driver_bibliography.proofs.ListsReplaced.{found_single, no_single, passed_single}
use Rattle.driver_bibliography.proofs.lists.has_single_names.Goals as goal

pub returns-then-is_single_name : goal.returns-then-is_single_name
returns-then-is_single_name c =
    found_single c.args.parts.now c.loop-part.part-index c.part-item.result _ c.loop-part-test.true c.part-item.is (sym c.is_single_name.ensures ∙ c.if-is_single_name.true) c.loop-part.invariant

pub loop-part-preserved : goal.loop-part-preserved
loop-part-preserved c =
    passed_single c.args.parts.now c.loop-part.part-index c.part-item.result _ c.loop-part-test.true c.part-item.is (sym c.is_single_name.ensures ∙ c.if-is_single_name.false) c.loop-part.invariant

pub returns : goal.returns
returns c = no_single c.args.parts.now c.loop-part.part-index _ c.loop-part-test.false c.loop-part.invariant
