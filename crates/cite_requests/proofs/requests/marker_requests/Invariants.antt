use Rattle.std.proofs.Common.{◌≡◌, drop, map}
use Rattle.rendering_locale.specs.Views.{locale_view}
use Rattle.rendering_style.specs.StyleViews.{style_view}
use Rattle.cite_markers.specs.Views.{piece_view, document_view}
use Rattle.cite_requests.specs.Asked.{asked_request_view, requests_after, requests_asked}
use Rattle.cite_requests.specs.Requests.{context_of}
use Rattle.cite_requests.specs.Views.{file_works_with}
use Rattle.cite_requests.proofs.requests.marker_requests.Given as goal

abbrev pub invariant-loop-piece : goal.invariant-loop-piece
invariant-loop-piece l =
    let bib_file = file_works_with l.bib_file l.setting.library.now in
    let context = context_of (style_view l.setting.style.now) (locale_view l.setting.locale.now) in
    requests_after bib_file context (map asked_request_view l.requests.items) (map piece_view (drop l.piece-index l.document.pieces.items)) ≡ requests_asked bib_file context (document_view l.document)
