use Rattle.std.proofs.Common.{◌+◌, ◌++◌, ◌∷◌, [], ℕ, List, drop, map, sym, ap, ◌∙◌, append_assoc, append-nil, arith}
use Rattle.std.proofs.lemmas.List.{drop_all}
use Rattle.cite_markers.specs.Document.{Piece}
use Rattle.cite_markers.specs.Views.{piece_view}
use Rattle.cite_requests.specs.Markers.{names_cited}
use Rattle.cite_requests.proofs.StepsAfter.{at_view}
use Rattle.cite_uses.specs.Alike.{now_of}
use Rattle.cite_uses.proofs.AlikeNames.{one_piece}
use Rattle.cite_uses.proofs.names.cited_names.Goals as goal

pub loop-piece-preserved : goal.loop-piece-preserved
loop-piece-preserved c =
    let i = c.loop-piece.piece-index in
    let xs = c.args.document.now.pieces.items in
    let before = map now_of c.loop-piece.names.items in
    let here = piece_view c.piece-item.result in
    let rest = map piece_view (drop (i + 1) xs) in
    let cut = at_view piece_view (λ (ps : List Piece). ps) c.deref-piece-items.result.now xs i c.piece-item.result c.deref-piece-items.ensures.value c.loop-piece-test.true c.piece-item.is in
    ap (λ (ns : List (List ℕ)). ns ++ names_cited rest) c.in_ok-push_names_in.ensures
    ∙ append_assoc before (names_cited (here ∷ [])) (names_cited rest)
    ∙ ap (λ (ns : List (List ℕ)). before ++ ns) (sym (one_piece here rest))
    ∙ ap (λ (ps : List Piece). before ++ names_cited ps) (sym cut)
    ∙ c.loop-piece.invariant

pub returns : goal.returns
returns c =
    let xs = c.args.document.now.pieces.items in
    let before = map now_of c.loop-piece.names.items in
    let none = drop_all c.loop-piece.piece-index xs (omega (arith, c.loop-piece-test.false, c.deref-piece-items.ensures.len)) in
    sym (append-nil before) ∙ ap (λ ys. before ++ names_cited (map piece_view ys)) (sym none) ∙ c.loop-piece.invariant
