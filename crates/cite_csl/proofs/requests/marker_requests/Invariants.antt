use Rattle.std.proofs.Common.{◌≡◌, drop, map}
use Rattle.cite_markers.specs.Views.{piece_view, document_view}
use Rattle.cite_requests.specs.Asked.{asked_request_view, requests_after, requests_asked}
use Rattle.cite_order.specs.Views.{context_view}
use Rattle.cite_csl.specs.Views.{cited_view}
use Rattle.cite_csl.proofs.requests.marker_requests.Given as goal

abbrev pub invariant-loop-piece : goal.invariant-loop-piece
invariant-loop-piece l =
    let works = cited_view l.works in
    let context = context_view l.setting in
    requests_after works context (map asked_request_view l.requests.items) (map piece_view (drop l.piece-index l.document.pieces.items)) ≡ requests_asked works context (document_view l.document)
