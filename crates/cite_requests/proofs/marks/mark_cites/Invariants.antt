use Rattle.std.proofs.Common.{◌≡◌, drop, map}
use Rattle.biblatex.specs.Bibliographies.{listed_view}
use Rattle.cite_markers.specs.Views.{cite_view}
use Rattle.cite_requests.specs.Cited.{marked_cites}
use Rattle.cite_requests.proofs.marks.mark_cites.Given as goal

abbrev pub invariant-loop-cite : goal.invariant-loop-cite
invariant-loop-cite l = marked_cites (listed_view l.file) l.marks (map cite_view (drop l.cite-index l.cites)) ≡ marked_cites (listed_view l.file) l.fn.marks (map cite_view l.cites)
