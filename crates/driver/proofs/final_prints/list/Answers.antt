use Rattle.std.proofs.Common.{refl}
use Rattle.driver.specs.FinalPrints.{listed_view, final_listed_view}
use Rattle.driver.proofs.FinalPrintsSteps.{listed_first}
use Rattle.driver.proofs.final_prints.list.Goals as goal

pub returns-then-is_none : goal.returns-then-is_none
returns-then-is_none g c =
    λ states.
    listed_first (listed_view g.T.EntryLike.answers states) c.args.listed.now c.index-listed-at.result _ (final_listed_view g.T.EntryLike.answers states c.args.next.now) c.is_none.result c.requires c.index-listed-at.is c.is_none.ensures
    c.if-is_none.true refl
