use Rattle.std.proofs.Common.{◌≡◌, drop, map}
use Rattle.std.specs.List.{list_any}
use Rattle.literature_values.specs.TextViews.{Chunk, chunk_view}
use Rattle.rendering_context.specs.Answering.{is_piece}
use Rattle.rendering_context.proofs.answer.has_piece.Given as goal

abbrev pub invariant-loop-piece : goal.invariant-loop-piece
invariant-loop-piece l =
    list_any (λ (c : Chunk). is_piece c.kind c.value) (map chunk_view (drop l.piece-index l.text)) ≡ list_any (λ (c : Chunk). is_piece c.kind c.value) (map chunk_view l.text)
