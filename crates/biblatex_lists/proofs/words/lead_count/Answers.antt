use Rattle.std.proofs.Common.{sym, ◌∙◌}
use Rattle.biblatex_lists.proofs.ViewsLists.{found_small, found_large}
use Rattle.biblatex_lists.proofs.words.lead_count.Goals as goal

pub returns-then-is_small-clause-value : goal.returns-then-is_small-clause-value
returns-then-is_small-clause-value c = sym (c.loop-i.invariant ∙ found_small c.args.words.now c.loop-i.i _ c.loop-i-test.true c.loop-i.auto.i (sym c.is_small.ensures ∙ c.if-is_small.true))

pub loop-i-preserved : goal.loop-i-preserved
loop-i-preserved c = c.loop-i.invariant ∙ found_large c.args.words.now c.loop-i.i _ c.loop-i-test.true c.loop-i.auto.i (sym c.is_small.ensures ∙ c.if-is_small.false)
