use Rattle.std.proofs.Common.{take, map}
use Rattle.std.specs.Fmt.{HasWritten, IsPlainFormatter}
use Rattle.laws.specs.Text.{text}
use Rattle.literature_numbers.specs.Pages.{pages_text}
use Rattle.literature_numbers.specs.PageViews.{page_part_view}
use Rattle.literature_numbers.proofs.page_ranges.PageRangesDisplay.fmt.Given as goal

abbrev pub invariant-loop-part : goal.invariant-loop-part
invariant-loop-part g l =
    IsPlainFormatter l.initial.f → HasWritten g.W.Write.write_str_gives l.initial.f (text (pages_text (map page_part_view (take l.part-index l.self.ranges.items)))) l.f
