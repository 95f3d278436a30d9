use Rattle.std.specs.Str.{chars}
use Rattle.driver_citations.proofs.EndingTexts.{one_less}
use Rattle.driver_citations.proofs.ending_text.without_first.Goals as goal

pub loop-index-preserved : goal.loop-index-preserved
loop-index-preserved c =
    (one_less c.loop-index.index (chars c.args.text.now) (chars c.loop-index.rest.now) (chars c.after_first-rest.result.now) c.loop-index.invariant.0 c.after_first-rest.ensures, c.after_first-rest.utf8)
