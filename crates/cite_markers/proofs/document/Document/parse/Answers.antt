use Rattle.std.proofs.Common.{◌≡◌, ℕ, [], ◌∷◌, ◌++◌, map, Err, sym, ap, ◌∙◌}
use Rattle.std.specs.Str.{chars}
use Rattle.std.proofs.lemmas.List.{map_push}
use Rattle.laws.specs.Steps.{each}
use Rattle.texts.specs.Views.{left}
use Rattle.cite_markers.specs.Document.{piece_at, or_offset, document_of}
use Rattle.cite_markers.specs.Views.{piece_view}
use Rattle.laws.proofs.Gathering.{begins, goes_on, ends, fails}
use Rattle.cite_markers.proofs.Leaving.{leaves_all, leaves_more, end_bytes}
use Rattle.cite_markers.proofs.DocumentLeaving.{pieces_shorten, piece_leaves, fault_leaves}
use Rattle.cite_markers.proofs.document.Document.parse.Goals as goal

pub loop-piece-init : goal.loop-piece-init
loop-piece-init c = rw (c.new-pieces.ensures.items, c.new-reader.ensures) (begins piece_at (chars c.args.text.now), leaves_all (chars c.args.text.now))

pub loop-piece-preserved : goal.loop-piece-preserved
loop-piece-preserved c =
    let e = rw c.in-Ok-Some.field-0-is at c.in-Ok-Some.ensures in
    let pushed : map piece_view c.push.new.self.items ≡ map piece_view c.loop-piece.pieces.items ++ piece_view c.in-Ok-Some.piece ∷ [] = ap (map piece_view) c.in_ok-push-in-Ok-Some.ensures.items ∙ map_push piece_view c.loop-piece.pieces.items c.in-Ok-Some.piece in
    rw pushed (
      goes_on piece_at pieces_shorten (map piece_view c.loop-piece.pieces.items) (left c.loop-piece.reader) (left c.next_piece.new.reader) (each piece_at (chars c.args.text.now)) (piece_view c.in-Ok-Some.piece) c.loop-piece.invariant.0 e,
      leaves_more (chars c.args.text.now) (left c.loop-piece.reader) (left c.next_piece.new.reader) c.loop-piece.invariant.1 (piece_leaves (left c.loop-piece.reader) (left c.next_piece.new.reader) (piece_view c.in-Ok-Some.piece) e),
    )

pub loop-piece-smaller : goal.loop-piece-smaller
loop-piece-smaller c =
    let e = rw c.in-Ok-Some.field-0-is at c.in-Ok-Some.ensures in
    pieces_shorten (left c.loop-piece.reader) (left c.next_piece.new.reader) (piece_view c.in-Ok-Some.piece) e

pub returns : goal.returns
unfolding document_of
returns c =
    let e = rw c.in-Ok-None.field-0-is at c.in-Ok-None.ensures in
    ap (or_offset (chars c.args.text.now)) (ends piece_at (map piece_view c.loop-piece.pieces.items) (left c.loop-piece.reader) (left c.next_piece.new.reader) (each piece_at (chars c.args.text.now)) c.loop-piece.invariant.0 e)

pub offset_of-offset-requires : goal.offset_of-offset-requires
offset_of-offset-requires c =
    let e = rw c.in-Err-NotThere.field-0-is at c.in-Err-NotThere.ensures in
    end_bytes (chars c.args.text.now) (left c.next_piece.new.reader) (leaves_more (chars c.args.text.now) (left c.loop-piece.reader) (left c.next_piece.new.reader) c.loop-piece.invariant.1 (fault_leaves (left c.loop-piece.reader) (left c.next_piece.new.reader) e))

pub returns-in-Err-NotThere : goal.returns-in-Err-NotThere
unfolding document_of
returns-in-Err-NotThere c =
    let e = rw c.in-Err-NotThere.field-0-is at c.in-Err-NotThere.ensures in
    ap (or_offset (chars c.args.text.now)) (fails piece_at (map piece_view c.loop-piece.pieces.items) (left c.loop-piece.reader) (each piece_at (chars c.args.text.now)) (left c.next_piece.new.reader) c.loop-piece.invariant.0 e)
    ∙ ap (λ (n : ℕ). Err n) (sym c.offset_of-offset.ensures)
