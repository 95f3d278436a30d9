use Rattle.std.proofs.Common.{false, sym, ◌∙◌}
use Rattle.biblatex_lists.specs.StyledChars.{in_style}
use Rattle.biblatex_lists.proofs.PartsTrimmed.{last_gap_below, last_no_gap_below}
use Rattle.biblatex_lists.proofs.parting.without_last_gaps.Goals as goal

pub returns-then-not-is_gap : goal.returns-then-not-is_gap
returns-then-not-is_gap c = sym (c.loop-i.invariant ∙ last_no_gap_below c.args.text.now c.loop-i.i (in_style false 0) c.loop-i-test.true c.loop-i.auto.i (sym c.is_gap.ensures ∙ c.if-not-is_gap.true))

pub loop-i-preserved : goal.loop-i-preserved
loop-i-preserved c = c.loop-i.invariant ∙ last_gap_below c.args.text.now c.loop-i.i (in_style false 0) c.loop-i-test.true c.loop-i.auto.i (sym c.is_gap.ensures ∙ c.if-not-is_gap.false)
