use Rattle.std.proofs.Common.{◌≡◌, ◌+◌, ℕ, Bool, false, List, [], drop, length, map, replicate, sym, ap, ◌∙◌, arith}
use Rattle.std.specs.Vec.{with_items}
use Rattle.std.proofs.lemmas.List.{drop_all, with_items_is}
use Rattle.biblatex.specs.Bibliographies.{listed_view}
use Rattle.cite_markers.specs.Document.{Piece}
use Rattle.cite_markers.specs.Views.{piece_view, document_view}
use Rattle.cite_requests.specs.Cited.{marked_in, marked_pieces}
use Rattle.cite_requests.proofs.MarkedEntries.{in_length}
use Rattle.cite_requests.proofs.StepsAfter.{at_view}
use Rattle.cite_requests.proofs.marks.cited_marks.Goals as goal

pub loop-piece-init : goal.loop-piece-init
loop-piece-init c =
    let file = listed_view c.args.file.now in
    let none : c.in_ok-marks.marks.items ≡ replicate (length file.entries) false = c.in_ok-marks.ensures.items_if_clones_equal (λ y same. same) ∙ ap (λ (n : ℕ). replicate n false) c.len.ensures in
    ap (λ (ms : List Bool). marked_pieces file ms (document_view c.args.document.now)) none

pub loop-piece-preserved : goal.loop-piece-preserved
loop-piece-preserved c =
    let file = listed_view c.args.file.now in
    let i = c.loop-piece.piece-index in
    let xs = c.args.document.now.pieces.items in
    let marks = c.loop-piece.marks in
    let slice = c.as_mut_slice.result.now in
    let new = c.mark_piece.new.marks in
    let p = piece_view c.piece-item.result in
    let len : length slice ≡ marks.len = omega (arith, c.as_mut_slice.ensures.len, ap length c.as_mut_slice.ensures.value) in
    let long : length new ≡ marks.len = ap length c.mark_piece.ensures ∙ in_length file slice p ∙ len in
    let items : (with_items marks new).items ≡ marked_in file marks.items p = with_items_is marks new long ∙ c.mark_piece.ensures ∙ ap (λ (ms : List Bool). marked_in file ms p) c.as_mut_slice.ensures.value in
    let cut = at_view piece_view (λ (ps : List Piece). marked_pieces file marks.items ps) c.deref-piece-items.result.now xs i c.piece-item.result c.deref-piece-items.ensures.value c.loop-piece-test.true c.piece-item.is in
    ap (λ (ms : List Bool). marked_pieces file ms (map piece_view (drop (i + 1) xs))) items ∙ sym cut ∙ c.loop-piece.invariant

pub returns : goal.returns
returns c =
    let file = listed_view c.args.file.now in
    let xs = c.args.document.now.pieces.items in
    let none : map piece_view (drop c.loop-piece.piece-index xs) ≡ [] = ap (map piece_view) (drop_all c.loop-piece.piece-index xs (omega (arith, c.loop-piece-test.false, c.deref-piece-items.ensures.len))) in
    ap (λ (ps : List Piece). marked_pieces file c.loop-piece.marks.items ps) (sym none) ∙ c.loop-piece.invariant
