use Rattle.std.proofs.Common.{◌≡◌, ◌||◌, ℕ, List, drop, map}
use Rattle.std.specs.Borrow.{Bor}
use Rattle.biblatex.specs.Bibliographies.{listed_view}
use Rattle.cite_markers.specs.Views.{piece_view, document_view}
use Rattle.cite_requests.specs.Cited.{is_among, keys_cited}
use Rattle.cite_requests.specs.Views.{has}
use Rattle.cite_requests.proofs.cited.cited_keys.Given as goal

abbrev pub invariant-loop-piece : goal.invariant-loop-piece
invariant-loop-piece l =
    (k : Bor (List ℕ)) → (has l.keys k || is_among (keys_cited (listed_view l.file) (map piece_view (drop l.piece-index l.document.pieces.items))) k.now) ≡ is_among (keys_cited (listed_view l.file) (document_view l.document)) k.now
