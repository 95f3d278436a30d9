use Rattle.std.proofs.Common.{◌≡◌, ◌||◌, ◌+◌, ℕ, List, [], drop, map, sym, ap, ◌∙◌, arith}
use Rattle.std.specs.Borrow.{Bor}
use Rattle.std.specs.List.{list_any}
use Rattle.std.specs.Str.{bytes_eq}
use Rattle.std.proofs.lemmas.List.{drop_all}
use Rattle.biblatex.specs.Bibliographies.{listed_view}
use Rattle.cite_markers.specs.Document.{Piece}
use Rattle.cite_markers.specs.Views.{piece_view, document_view}
use Rattle.cite_requests.specs.Cited.{is_among, keys_cited, keys_in}
use Rattle.cite_requests.specs.Views.{has}
use Rattle.cite_requests.proofs.CitedKeys.{among_more, or_false}
use Rattle.cite_requests.proofs.StepsAfter.{at_view}
use Rattle.cite_requests.proofs.cited.cited_keys.Goals as goal

pub loop-piece-init : goal.loop-piece-init
loop-piece-init c k =
    λ i. list_any (λ (x : Bor (List ℕ)). bytes_eq k.now x.now) (c.new-keys.ensures.empty i) || is_among (keys_cited (listed_view c.args.file.now) (document_view c.args.document.now)) k.now

pub loop-piece-preserved : goal.loop-piece-preserved
loop-piece-preserved c k =
    let file = listed_view c.args.file.now in
    let i = c.loop-piece.piece-index in
    let xs = c.args.document.now.pieces.items in
    let before = has c.loop-piece.keys k in
    let rest = keys_cited file (map piece_view (drop (i + 1) xs)) in
    let cut = at_view piece_view (λ (ps : List Piece). before || is_among (keys_cited file ps) k.now) c.deref-piece-items.result.now xs i c.piece-item.result c.deref-piece-items.ensures.value c.loop-piece-test.true c.piece-item.is in
    (λ j. c.in_ok-insert_cited.ensures k j || is_among rest k.now) ∙ among_more before (keys_in file (piece_view c.piece-item.result)) rest k.now ∙ sym cut ∙ c.loop-piece.invariant k

pub returns : goal.returns
returns c k =
    let file = listed_view c.args.file.now in
    let xs = c.args.document.now.pieces.items in
    let known = has c.loop-piece.keys k in
    let none : map piece_view (drop c.loop-piece.piece-index xs) ≡ [] = ap (map piece_view) (drop_all c.loop-piece.piece-index xs (omega (arith, c.loop-piece-test.false, c.deref-piece-items.ensures.len))) in
    sym (or_false known) ∙ ap (λ (ps : List Piece). known || is_among (keys_cited file ps) k.now) (sym none) ∙ c.loop-piece.invariant k
