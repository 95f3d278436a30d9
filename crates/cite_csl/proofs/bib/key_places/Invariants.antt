use Rattle.std.proofs.Common.{◌≤◌, drop, length, map}
use Rattle.biblatex.specs.RawViews.{entry_view}
use Rattle.cite_csl.specs.Views.{ArePlaces}
use Rattle.cite_csl.proofs.bib.key_places.Given as goal

abbrev pub invariant-loop-left : goal.invariant-loop-left
invariant-loop-left l = ArePlaces l.places (map entry_view (drop l.left l.entries)) × (l.left ≤ length l.entries)

abbrev pub decreases-loop-left : goal.decreases-loop-left
decreases-loop-left l = l.left
