use Rattle.std.proofs.Common.{◌≡◌, ◌≤◌, ◌+◌, ◌-◌, [], List, length, set, sym, ◌∙◌, refl, arith}
use Rattle.rendering_tree.specs.Tokens.{Token}
use Rattle.rendering_page.specs.Cursors.{backwards_from, blanks, trimmed_from}
use Rattle.rendering_page.specs.Views.{pieces_view}
use Rattle.rendering_page.proofs.CursorsTrimming.{trimmed_last}
use Rattle.rendering_page.proofs.CutsEnds.{cut_nothing}
use Rattle.rendering_page.proofs.ViewsPieces.{at_start, append_one, tokens_at}
use Rattle.rendering_page.proofs.cutting.trim_end.Goals as goal

pub returns-then-not-trim_piece : goal.returns-then-not-trim_piece
returns-then-not-trim_piece c =
    let ps = c.loop-i.pieces.items in
    let j = c.loop-i.i in
    let q = c.trim_piece.new.piece in
    let qs = set ps (j - 1) q in
    let next : (j - 1) + 1 ≡ j = omega (arith, c.loop-i-test.true) in
    let low : j ≤ length ps = omega (arith, c.loop-i.invariant.0, c.loop-i.pieces.ok.0) in
    sym (tokens_at qs (j - 1))
    ∙ append_one (λ (change : List Token → List Token). change) ps qs (j - 1) j c.index_mut.result.now q (trimmed_from c.loop-i.met) (λ ts. ts) next low c.index_mut.ensures.value refl c.if-not-trim_piece.ensures
    ∙ c.loop-i.invariant.1
    ∙ trimmed_last (pieces_view c.args.pieces.now.items)

pub returns : goal.returns
returns c =
    let met = c.loop-i.met in
    let first : c.loop-i.i ≡ 0 = omega (arith, c.loop-i-test.false) in
    at_start (trimmed_from met) c.loop-i.pieces.items c.loop-i.i first (cut_nothing (blanks (backwards_from met [])))
    ∙ c.loop-i.invariant.1
    ∙ trimmed_last (pieces_view c.args.pieces.now.items)
