use Rattle.std.proofs.Common.{◌≡◌, drop, map}
use Rattle.laws.specs.Text.{is_filled}
use Rattle.literature_numbers.specs.Pages.{pages_text}
use Rattle.literature_numbers.specs.PageViews.{page_part_view}
use Rattle.rendering_context.proofs.pages.have_text.Given as goal

abbrev pub invariant-loop-part : goal.invariant-loop-part
invariant-loop-part l = is_filled (pages_text (map page_part_view (drop l.part-index l.pages.ranges.items))) ≡ is_filled (pages_text (map page_part_view l.pages.ranges.items))
