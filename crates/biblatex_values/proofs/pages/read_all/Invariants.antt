use Rattle.std.proofs.Common.{◌≡◌, length}
use Rattle.texts.specs.Views.{left}
use Rattle.biblatex_values.specs.Pages.{ranges_at}
use Rattle.biblatex_values.proofs.PagesRanges.{ranges_onto}
use Rattle.biblatex_values.proofs.pages.read_all.Given as goal

abbrev pub invariant-loop-ranges : goal.invariant-loop-ranges
invariant-loop-ranges l = ranges_onto l.ranges.items (left l.reader) ≡ ranges_at (left l.fn.reader)

abbrev pub decreases-loop-ranges : goal.decreases-loop-ranges
decreases-loop-ranges l = length (left l.reader)
