use Rattle.std.proofs.Common.{◌≡◌, length, sym, subst, arith, ◌∙◌}
use Rattle.std.specs.Prelude.{Some, None, Ok, Err}
use Rattle.std.proofs.lemmas.List.{map_push}
use Rattle.std.proofs.lemmas.List.Elements.{All-push}
use Rattle.std.proofs.lemmas.Result.{err_from_is_err_and}
use Rattle.biblatex_text.specs.Reading.{offset}
use Rattle.biblatex_text.specs.Value.{next_piece_at}
use Rattle.biblatex_text.specs.Span.{IsPieceOf}
use Rattle.biblatex_text.specs.Views.{left, size, piece_view, pieces_view}
use Rattle.biblatex_text.proofs.ReadingShorter.{pieces_shorten}
use Rattle.biblatex_text.proofs.ValuePieces.{value_onto-some, value_onto-none, value_onto-err}
use Rattle.biblatex_text.proofs.cursor.Reader.value.Goals as goal

pub returns-in_err-piece-clause-reads : goal.returns-in_err-piece-clause-reads
returns-in_err-piece-clause-reads c =
    let p = err_from_is_err_and c.from_residual-in_err-piece.result c.from_residual-in_err-piece.ensures.1 in
    let n = size c.args.self.now in
    let is = subst (λ s. next_piece_at (length s) (left c.loop-pieces.self) ≡ Err (c.in_err-piece.field-0.0, left c.next_piece.new.self)) c.loop-pieces.invariant.source c.in_err-piece.ensures.reads in
    rw (p.1, p.2) (sym c.loop-pieces.invariant.reads ∙ value_onto-err n c.offset-start.result (pieces_view c.loop-pieces.pieces) (left c.loop-pieces.self) (c.in_err-piece.field-0.0, left c.next_piece.new.self) is)

pub loop-pieces-smaller : goal.loop-pieces-smaller
loop-pieces-smaller c =
    let e = rw c.in-Some.is at c.in_ok-piece.ensures.reads in
    pieces_shorten (size c.loop-pieces.self) (left c.loop-pieces.self) (left c.next_piece.new.self) (piece_view c.in-Some.piece) e

pub loop-pieces-preserved : goal.loop-pieces-preserved
loop-pieces-preserved c =
    let inv = c.loop-pieces.invariant in
    let source = c.args.self.now.source.now in
    let e = rw c.in-Some.is at c.in_ok-piece.ensures.reads in
    let given = subst (λ s. next_piece_at (length s) (left c.loop-pieces.self) ≡ Ok (Some (piece_view c.in-Some.piece), left c.next_piece.new.self)) inv.source e in
    let here = rw c.in-Some.is at c.in_ok-piece.ensures.slice in
    let items = c.loop-pieces.pieces.items in
    record {
      source = c.next_piece.ensures.on.0 ∙ inv.source;
      on = omega (arith, c.next_piece.ensures.on.1, inv.on);
      slices = rw c.in_ok-push-2.ensures.items (All-push (IsPieceOf source) items c.in-Some.piece inv.slices (subst (λ s. IsPieceOf s c.in-Some.piece) inv.source here));
      reads = rw (c.in_ok-push-2.ensures.items, map_push piece_view items c.in-Some.piece) (sym (value_onto-some (length source) c.offset-start.result (pieces_view c.loop-pieces.pieces) (left c.loop-pieces.self) (left c.next_piece.new.self) (piece_view c.in-Some.piece) given) ∙ inv.reads);
    }

pub returns-clause-reads : goal.returns-clause-reads
returns-clause-reads c =
    let inv = c.loop-pieces.invariant in
    let source = c.args.self.now.source.now in
    let e = rw c.in_default.is at c.in_ok-piece.ensures.reads in
    let given = subst (λ s. next_piece_at (length s) (left c.loop-pieces.self) ≡ Ok (None, left c.next_piece.new.self)) inv.source e in
    let end : c.offset.result ≡ offset (length source) (left c.next_piece.new.self) = subst (λ s. c.offset.result ≡ offset (length s) (left c.next_piece.new.self)) (c.next_piece.ensures.on.0 ∙ inv.source) c.offset.ensures.offset in
    rw end (sym inv.reads ∙ value_onto-none (length source) c.offset-start.result (pieces_view c.loop-pieces.pieces) (left c.loop-pieces.self) (left c.next_piece.new.self) given)
