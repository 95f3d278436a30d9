use Rattle.std.proofs.Common.{◌≡◌, take, map}
use Rattle.literature_numbers.specs.PageViews.{page_part_view}
use Rattle.literature_numbers.proofs.page_ranges.PageRangesClone.clone.Given as goal

abbrev pub invariant-loop-part : goal.invariant-loop-part
invariant-loop-part l = map page_part_view l.ranges.items ≡ map page_part_view (take l.part-index l.self.ranges.items)
