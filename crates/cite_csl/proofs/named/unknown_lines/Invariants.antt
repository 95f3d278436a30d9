use Rattle.std.proofs.Common.{◌≡◌, ◌++◌, chars, drop, flat_map, map}
use denote.Shadow.{shadow}
use denote.Text.{Utf8}
use Rattle.fault_lines.specs.Views.{IsIn, lines_view}
use Rattle.cite_markers.specs.Views.{piece_view, document_view}
use Rattle.cite_csl.specs.Names.{name_lines, names_of}
use Rattle.cite_csl.specs.Views.{cited_view}
use Rattle.cite_csl_styles.specs.Views.{source_view}
use Rattle.cite_csl.proofs.named.unknown_lines.Given as goal

abbrev pub invariant-loop-piece : goal.invariant-loop-piece
invariant-loop-piece l = (lines_view l.lines ++ flat_map (name_lines (source_view l.document.file) (cited_view l.works)) (names_of (map piece_view (drop l.piece-index l.document.document.pieces.items)) (chars l.rest))
    ≡ flat_map (name_lines (source_view l.document.file) (cited_view l.works)) (names_of (document_view l.document.document) (chars l.document.text.now))) × shadow (Utf8 l.rest) × IsIn l.document.file.bytes.now l.lines
