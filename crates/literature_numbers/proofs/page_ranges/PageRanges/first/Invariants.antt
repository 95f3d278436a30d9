use Rattle.std.proofs.Common.{◌≡◌, drop, map}
use Rattle.literature_numbers.specs.Pages.{first_number}
use Rattle.literature_numbers.specs.PageViews.{page_part_view}
use Rattle.literature_numbers.proofs.page_ranges.PageRanges.first.Given as goal

abbrev pub invariant-loop-part : goal.invariant-loop-part
invariant-loop-part l = first_number (map page_part_view (drop l.part-index l.self.ranges.items)) ≡ first_number (map page_part_view l.self.ranges.items)
