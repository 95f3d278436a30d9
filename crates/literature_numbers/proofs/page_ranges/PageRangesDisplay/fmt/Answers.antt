use Rattle.std.proofs.Common.{rules, refl, get_or, true, ◌<◌, ◌++◌, ◌∙◌, length, map, take}
use Rattle.std.proofs.Output.{has_written_of_eq, has_written_append}
use Rattle.laws.specs.Text.{text}
use Rattle.literature_numbers.specs.Pages.{part_text, pages_text}
use Rattle.literature_numbers.specs.PageViews.{page_part_view}
use Rattle.texts.proofs.GrowingWritten.{text-more_view}
use Rattle.literature_numbers.proofs.page_ranges.PageRangesDisplay.fmt.Goals as goal

pub loop-part-preserved : goal.loop-part-preserved
loop-part-preserved g c = λ plain.
    let below : c.loop-part.part-index < length c.args.self.now.ranges.items = search rules in
    let before = c.loop-part.invariant plain in
    has_written_of_eq _ _ _ _ _
    ((λ i. text (pages_text (map page_part_view (take c.loop-part.part-index c.args.self.now.ranges.items))) ++ text (part_text (page_part_view (c.part-item.is i))))
    ∙ (λ i. text (pages_text (map page_part_view (take c.loop-part.part-index c.args.self.now.ranges.items))) ++ text (part_text (page_part_view (get_or (c.deref-part-items.ensures.value i) c.loop-part.part-index c.part-item.result))))
    ∙ text-more_view part_text page_part_view c.args.self.now.ranges.items c.loop-part.part-index c.part-item.result below)
    (has_written_append _ _ _ _ _ _ before (c.in_ok-fmt.ensures.writes before.plain (refl {a = true})))
