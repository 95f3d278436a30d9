use Rattle.literature.proofs.LeftIndices.{still_among}
use Rattle.literature.proofs.holding.is_taken.Goals as goal

pub loop-next-preserved : goal.loop-next-preserved
loop-next-preserved c = still_among c.args.index c.in-Some.here c.loop-next.next _ c.in-Some.is c.if-here-index.false c.loop-next.invariant
