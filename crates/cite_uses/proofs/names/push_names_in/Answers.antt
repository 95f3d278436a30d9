use Rattle.std.proofs.Common.{◌++◌, ◌∷◌, [], ℕ, List, map, sym, ap, ◌∙◌, append-nil}
use Rattle.std.proofs.lemmas.Result.{on_ok_weaker}
use Rattle.cite_markers.specs.Views.{cite_view, piece_view}
use Rattle.cite_markers.specs.declared.document.Piece.{Piece}
use Rattle.cite_markers.specs.declared.marker.Cite.{Cite}
use Rattle.cite_requests.specs.Markers.{names_cited}
use Rattle.cite_uses.specs.Alike.{names_of, now_of}
use Rattle.cite_uses.proofs.names.push_names_in.Goals as goal

pub returns-in-Text : goal.returns-in-Text
returns-in-Text c =
    let before = map now_of c.args.names.now.items in
    sym (append-nil before) ∙ ap (λ (p : Piece). before ++ names_cited (piece_view p ∷ [])) (sym c.in-Text.is)

pub returns-in-Marker : goal.returns-in-Marker
returns-in-Marker c =
    let before = map now_of c.args.names.now.items in
    on_ok_weaker c.push_names_of.result
    (λ e.
    e ∙ ap (λ (cs : List Cite). before ++ names_of (map cite_view cs)) c.deref.ensures.value
    ∙ ap (λ (ns : List (List ℕ)). before ++ ns) (sym (append-nil (names_of (map cite_view c.in-Marker.cites.items))))
    ∙ ap (λ (p : Piece). before ++ names_cited (piece_view p ∷ [])) (sym c.in-Marker.is))
    c.push_names_of.ensures
