use Rattle.std.proofs.Common.{length}
use Rattle.texts.specs.Views.{left}
use Rattle.cite_markers.specs.Marker.{next_cite_at, cites_at}
use Rattle.cite_markers.specs.Views.{cites_view}
use Rattle.laws.proofs.Gathering.{Gathers}
use Rattle.cite_markers.proofs.marker.read_cites.Given as goal

abbrev pub invariant-loop-cites : goal.invariant-loop-cites
invariant-loop-cites l = Gathers next_cite_at (cites_view l.cites) (left l.reader) (cites_at (left l.fn.reader))

abbrev pub decreases-loop-cites : goal.decreases-loop-cites
decreases-loop-cites l = length (left l.reader)
