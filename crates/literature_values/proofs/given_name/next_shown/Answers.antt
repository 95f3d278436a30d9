use Rattle.std.proofs.Common.{arith, ◌≡◌, ◌∷◌, true, false, sym, ap, ◌∙◌}
use Rattle.texts.specs.Views.{left}
use Rattle.literature_values.specs.GivenNames.{Shown, shown, stays, all_shown}
use Rattle.literature_values.specs.PersonViews.{piece_view}
use Rattle.literature_values.proofs.GivenNameSteps.{pieces_shorten, shown_first, shown_later, shown_none}
use Rattle.literature_values.proofs.given_name.next_shown.Goals as goal

pub returns-then-stays-clause-first : goal.returns-then-stays-clause-first
returns-then-stays-clause-first c =
    let cuts = c.args.cuts in
    let piece = piece_view c.in-Some.piece in
    let rest = left c.next_piece.new.reader in
    let stay : stays cuts (shown cuts piece) ≡ true = sym (c.stays.ensures ∙ ap (stays cuts) c.shown-shown.ensures) ∙ c.if-stays.true in
    c.loop-piece.invariant.0
    ∙ shown_first cuts piece (left c.loop-piece.reader) rest c.in-Some.ensures stay
    ∙ ap (λ (x : Shown). x ∷ all_shown cuts rest) (sym c.shown-shown.ensures)

pub returns-then-stays-clause-shorter : goal.returns-then-stays-clause-shorter
returns-then-stays-clause-shorter c =
    let less = pieces_shorten (left c.loop-piece.reader) (left c.next_piece.new.reader) (piece_view c.in-Some.piece) c.in-Some.ensures in
    omega (arith, less, c.loop-piece.invariant.1)

pub loop-piece-smaller : goal.loop-piece-smaller
loop-piece-smaller c = pieces_shorten (left c.loop-piece.reader) (left c.next_piece.new.reader) (piece_view c.in-Some.piece) c.in-Some.ensures

pub loop-piece-preserved : goal.loop-piece-preserved
loop-piece-preserved c =
    let cuts = c.args.cuts in
    let piece = piece_view c.in-Some.piece in
    let rest = left c.next_piece.new.reader in
    let stay : stays cuts (shown cuts piece) ≡ false = sym (c.stays.ensures ∙ ap (stays cuts) c.shown-shown.ensures) ∙ c.if-stays.false in
    let less = pieces_shorten (left c.loop-piece.reader) rest piece c.in-Some.ensures in
    (c.loop-piece.invariant.0 ∙ shown_later cuts piece (left c.loop-piece.reader) rest c.in-Some.ensures stay, omega (arith, less, c.loop-piece.invariant.1))

pub returns-clause-first : goal.returns-clause-first
returns-clause-first c = c.loop-piece.invariant.0 ∙ shown_none c.args.cuts (left c.loop-piece.reader) (left c.next_piece.new.reader) c.in_default.ensures
