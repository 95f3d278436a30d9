use Rattle.std.proofs.Common.{◌≡◌, map, drop, None}
use Rattle.literature_numbers.specs.Pages.{pages_from}
use Rattle.literature_numbers.specs.PageViews.{page_part_view}
use Rattle.literature_numbers.proofs.PagesSteps.{pages_onto}
use Rattle.literature_numbers.proofs.page_ranges.group.Given as goal

abbrev pub invariant-loop-linked : goal.invariant-loop-linked
invariant-loop-linked l = pages_onto (map page_part_view l.ranges.items) l.first (drop l.linked-index l.numbers) ≡ pages_from None l.numbers
