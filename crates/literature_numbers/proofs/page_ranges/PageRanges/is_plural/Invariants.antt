use Rattle.std.proofs.Common.{◌≡◌, drop, map, false}
use Rattle.literature_numbers.specs.Pages.{has_more}
use Rattle.literature_numbers.specs.PageViews.{page_part_view}
use Rattle.literature_numbers.proofs.page_ranges.PageRanges.is_plural.Given as goal

abbrev pub invariant-loop-part : goal.invariant-loop-part
invariant-loop-part l = has_more l.is_later (map page_part_view (drop l.part-index l.self.ranges.items)) ≡ has_more false (map page_part_view l.self.ranges.items)
