use Rattle.std.proofs.Common.{Bool, map, take}
use Rattle.biblatex_text.specs.Views.{piece_view}
use Rattle.biblatex_fields.specs.Openings.{Replacement, resolved_piece_view, unresolved}
use Rattle.biblatex_fields.proofs.glossary.Glossary.resolve.Given as goal

abbrev pub invariant-loop-raw : goal.invariant-loop-raw
invariant-loop-raw l = (v : Bool) → Replacement l.self v (map resolved_piece_view l.pieces.items) (map unresolved (map piece_view (take l.raw-index l.raws)))
