use Rattle.std.proofs.Common.{rules}
use Rattle.csl_styles.proofs.Segments.{last_on}
use Rattle.csl_styles.proofs.information.last_part.Goals as goal

pub loop-more-preserved : goal.loop-more-preserved
loop-more-preserved c = (last_on c.loop-more.rest.now _ c.in-Some.more.now _ c.in-Some.ensures.parts c.loop-more.invariant.0, search rules)
