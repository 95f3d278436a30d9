use Rattle.std.proofs.Common.{◌+◌, length, arith}
use Rattle.rendering_page.specs.Pages.{before_mark}
use Rattle.rendering_page.specs.Views.{pieces_view}
use Rattle.rendering_page.proofs.PagesMarks.{cut_goes_on}
use Rattle.rendering_page.proofs.marks.cut_to_mark.Goals as goal

pub loop-piece-preserved-else-closed-opened : goal.loop-piece-preserved-else-closed-opened
loop-piece-preserved-else-closed-opened c =
    let start = c.args.pieces.now.items in
    let on = cut_goes_on c.pop.new.self.items c.loop-piece.pieces.items c.in-Some.piece c.loop-piece.closed c.opens-opened.result c.closes.result (length start + length start) (before_mark 0 (pieces_view start)) c.in-Some.ensures.items
    (omega (arith, c.in-Some.ensures.cases, c.loop-piece.pieces.ok.0, c.pop.new.self.ok.0)) c.opens-opened.ensures c.closes.ensures.marks c.closes.ensures.few (omega (arith, c.if-closed-opened.false)) c.loop-piece.invariant.few c.loop-piece.invariant.same in
    record { few = on.0; same = on.1 }

pub loop-piece-preserved-else-closed-opened-2 : goal.loop-piece-preserved-else-closed-opened-2
loop-piece-preserved-else-closed-opened-2 c =
    let start = c.args.pieces.now.items in
    let on = cut_goes_on c.pop.new.self.items c.loop-piece.pieces.items c.in-Some.piece c.loop-piece.closed c.opens-opened.result c.closes.result (length start + length start) (before_mark 0 (pieces_view start)) c.in-Some.ensures.items
    (omega (arith, c.in-Some.ensures.cases, c.loop-piece.pieces.ok.0, c.pop.new.self.ok.0)) c.opens-opened.ensures c.closes.ensures.marks c.closes.ensures.few (omega (arith, c.if-closed-opened.false)) c.loop-piece.invariant.few c.loop-piece.invariant.same in
    record { few = on.0; same = on.1 }
