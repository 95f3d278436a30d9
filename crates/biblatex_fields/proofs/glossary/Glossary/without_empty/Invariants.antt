use Rattle.std.proofs.Common.{map, take}
use Rattle.biblatex_fields.specs.Openings.{Replacement, resolved_piece_view}
use Rattle.biblatex_fields.proofs.glossary.Glossary.without_empty.Given as goal

abbrev pub invariant-loop-piece : goal.invariant-loop-piece
invariant-loop-piece l = Replacement l.self l.is_verbatim (map resolved_piece_view l.kept.items) (map resolved_piece_view (take l.piece-index l.pieces))
