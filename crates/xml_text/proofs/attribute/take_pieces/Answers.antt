use Rattle.std.proofs.Common.{◌≡◌, [], ◌∷◌, ◌++◌, map, ap, ◌∙◌, rules}
use Rattle.std.proofs.lemmas.List.{map_push}
use Rattle.laws.specs.Steps.{each}
use Rattle.texts.specs.Views.{left}
use Rattle.xml_text.specs.Tags.{piece_at}
use Rattle.xml_text.specs.Views.{piece_view, pieces_view}
use Rattle.laws.proofs.Gathering.{goes_on, ends, fails}
use Rattle.xml_text.proofs.Shorter.{pieces_shorten}
use Rattle.xml_text.proofs.attribute.take_pieces.Goals as goal

pub loop-pieces-preserved : goal.loop-pieces-preserved
loop-pieces-preserved c =
    let e = rw c.in-Some.is at c.in_ok-piece.ensures in
    let pushed : pieces_view c.push.new.self ≡ pieces_view c.loop-pieces.pieces ++ piece_view c.in-Some.piece ∷ [] = ap (map piece_view) c.in_ok-push.ensures.items ∙ map_push piece_view c.loop-pieces.pieces.items c.in-Some.piece in
    rw pushed (goes_on (piece_at c.args.quote) (pieces_shorten c.args.quote) (pieces_view c.loop-pieces.pieces) (left c.loop-pieces.reader) (left c.next_piece.new.reader) (each (piece_at c.args.quote) (left c.args.reader.now)) (piece_view c.in-Some.piece) c.loop-pieces.invariant e)

pub loop-pieces-smaller : goal.loop-pieces-smaller
loop-pieces-smaller c =
    let e = rw c.in-Some.is at c.in_ok-piece.ensures in
    pieces_shorten c.args.quote (left c.loop-pieces.reader) (left c.next_piece.new.reader) (piece_view c.in-Some.piece) e

pub returns : goal.returns
returns c =
    let e = rw c.in_default.is at c.in_ok-piece.ensures in
    ends (piece_at c.args.quote) (pieces_view c.loop-pieces.pieces) (left c.loop-pieces.reader) (left c.next_piece.new.reader) (each (piece_at c.args.quote) (left c.args.reader.now)) c.loop-pieces.invariant e

pub returns-in_err-piece : goal.returns-in_err-piece
returns-in_err-piece c =
    let f = fails (piece_at c.args.quote) (pieces_view c.loop-pieces.pieces) (left c.loop-pieces.reader) (each (piece_at c.args.quote) (left c.args.reader.now)) _ c.loop-pieces.invariant c.in_err-piece.ensures in
    search rules
