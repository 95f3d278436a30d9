use Rattle.std.proofs.Common.{◌≡◌, [], drop, map}
use Rattle.biblatex_text.specs.Views.{piece_view}
use Rattle.biblatex_content.specs.Spans.{spanned_so_far}
use Rattle.biblatex_fields.specs.Value.{in_order, read}
use Rattle.biblatex_fields.proofs.abbreviations.Abbreviations.contents.Given as goal

abbrev pub invariant-loop-raw : goal.invariant-loop-raw
invariant-loop-raw l = in_order (read l.self l.is_verbatim) (map piece_view (drop l.raw-index l.pieces)) (spanned_so_far l.contents) ≡ in_order (read l.self l.is_verbatim) (map piece_view l.pieces) []
