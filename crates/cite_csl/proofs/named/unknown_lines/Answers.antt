use Rattle.std.proofs.Common.{◌+◌, ◌++◌, List, chars, drop, flat_map, map, sym, ◌∙◌, rules}
use Rattle.cite_markers.specs.Document.{Piece}
use Rattle.cite_markers.specs.Views.{piece_view}
use Rattle.cite_requests.proofs.StepsAfter.{at_view}
use Rattle.fault_lines.specs.Views.{lines_view}
use Rattle.cite_csl.specs.Names.{name_lines, names_of}
use Rattle.cite_csl.specs.Views.{cited_view}
use Rattle.cite_csl_styles.specs.Views.{source_view}
use Rattle.cite_csl.proofs.Naming.{piece_more}
use Rattle.cite_csl.proofs.named.unknown_lines.Goals as goal

pub loop-piece-preserved : goal.loop-piece-preserved
loop-piece-preserved c =
    let say = name_lines (source_view c.args.document.now.file) (cited_view c.args.works) in
    let i = c.loop-piece.piece-index in
    let xs = c.args.document.now.document.pieces.items in
    let lines = lines_view c.loop-piece.lines in
    let cs = chars c.loop-piece.rest.now in
    let cut = at_view piece_view (λ (ps : List Piece). lines ++ flat_map say (names_of ps cs)) c.deref-piece-items.result.now xs i c.piece-item.result c.deref-piece-items.ensures.value c.loop-piece-test.true c.piece-item.is in
    (piece_more say lines _ _ (piece_view c.piece-item.result) (map piece_view (drop (i + 1) xs)) cs _ (sym cut ∙ c.loop-piece.invariant.0) c.in_ok-push_unknown_of.ensures.lines c.past_piece-rest.ensures, search rules, c.in_ok-push_unknown_of.ensures.place)
