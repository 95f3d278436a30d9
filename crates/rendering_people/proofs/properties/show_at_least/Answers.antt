use Rattle.std.proofs.Common.{◌≡◌, ◌||◌, ◌∙◌}
use Rattle.std.specs.Prelude.{nat_lt}
use Rattle.rendering_people.specs.Counts.{counted}
use Rattle.rendering_people.specs.declared.properties.PeopleCount.{PeopleCount}
use Rattle.rendering_people.proofs.CountsSteps.{changed_more, any_more, or_true, or_false}
use Rattle.rendering_people.proofs.properties.show_at_least.Goals.{then-show_at_least, else-show_at_least}
use Rattle.rendering_people.proofs.properties.show_at_least.Goals as goal

pub loop-count-preserved : goal.loop-count-preserved
loop-count-preserved c =
    let num = c.args.num in
    let counts = c.args.counts.now in
    let shows_more : c.if-show_at_least.shows_more ≡ (c.loop-count.shows_more || c.show_at_least.result) = elim c.if-show_at_least.branch [
      | then-show_at_least w ↦ w.shows_more-is ∙ or_true c.loop-count.shows_more c.show_at_least.result w.if-show_at_least.true
      | else-show_at_least w ↦ w.shows_more-is ∙ or_false c.loop-count.shows_more c.show_at_least.result w.if-show_at_least.false
    ] in (
      changed_more (counted num) counts c.loop-count.counts c.loop-count.count-index _ _ c.loop-count-test.true c.loop-count.invariant.0 c.show_at_least.ensures.after,
      any_more (counted num) (λ (p : PeopleCount). nat_lt p.shown (counted num p).shown) counts c.loop-count.counts c.loop-count.count-index _ c.loop-count-test.true c.loop-count.invariant.0
          c.loop-count.shows_more c.show_at_least.result c.if-show_at_least.shows_more c.loop-count.invariant.1 c.show_at_least.ensures.changed shows_more,
    )
