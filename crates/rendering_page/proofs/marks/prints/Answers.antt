use Rattle.std.proofs.Common.{◌≡◌, ◌+◌, ◌-◌, ◌≤◌, true, length, take, sym, ◌∙◌, arith}
use Rattle.rendering_page.specs.Marks.{closes, opens}
use Rattle.rendering_page.specs.Pages.{prints}
use Rattle.rendering_page.specs.Views.{pieces_view}
use Rattle.rendering_page.proofs.PagesMarks.{printed, printed_before, put_more}
use Rattle.rendering_page.proofs.marks.prints.Goals as goal

pub returns-then-prints_itself : goal.returns-then-prints_itself
returns-then-prints_itself c =
    let items = c.args.pieces.now.items in
    let i = c.loop-i.i - 1 in
    let piece = c.index-piece.result.now in
    let next : i + 1 ≡ c.loop-i.i = omega (arith, c.loop-i-test.true) in
    let low : c.loop-i.i ≤ length items = omega (arith, c.loop-i.invariant.low, c.args.pieces.now.ok.0) in
    let all : prints 0 (pieces_view items) ≡ true =
    sym c.loop-i.invariant.same ∙ put_more items i c.loop-i.i piece c.loop-i.closed next low c.index-piece.ensures ∙ printed piece c.loop-i.closed (pieces_view (take i items)) (sym c.prints_itself.ensures ∙ c.if-prints_itself.true) in
    sym all

pub loop-i-preserved : goal.loop-i-preserved
loop-i-preserved c =
    let items = c.args.pieces.now.items in
    let i = c.loop-i.i - 1 in
    let piece = c.index-piece.result.now in
    let next : i + 1 ≡ c.loop-i.i = omega (arith, c.loop-i-test.true) in
    let low : c.loop-i.i ≤ length items = omega (arith, c.loop-i.invariant.low, c.args.pieces.now.ok.0) in
    let now = c.loop-i.closed - c.opens-opened.result + c.closes.result in
    let marks : now + opens piece ≡ c.loop-i.closed + closes piece = omega (arith, c.opens-opened.ensures, c.closes.ensures.marks, c.if-closed-opened.false) in
    record {
      low = omega (arith, c.loop-i.invariant.low);
      few = omega (arith, c.loop-i.invariant.few, c.closes.ensures.few, c.loop-i-test.true);
      same = sym (put_more items i c.loop-i.i piece c.loop-i.closed next low c.index-piece.ensures
          ∙ printed_before piece c.loop-i.closed now (pieces_view (take i items)) (sym c.prints_itself.ensures ∙ c.if-prints_itself.false) marks)
          ∙ c.loop-i.invariant.same;
    }
