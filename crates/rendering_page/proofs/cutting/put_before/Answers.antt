use Rattle.std.proofs.Common.{◌≡◌, ◌≤◌, ◌+◌, ◌-◌, ℕ, length, set, refl, ap, ◌∙◌, arith}
use Rattle.std.specs.List.{insert}
use Rattle.rendering_tree.specs.Tokens.{with_letter_before}
use Rattle.rendering_page.specs.Cursors.{with_cut}
use Rattle.rendering_page.specs.Views.{with_piece}
use Rattle.rendering_page.proofs.CursorsIndices.{inserted}
use Rattle.rendering_page.proofs.CutsEnds.{before_none}
use Rattle.rendering_page.proofs.ViewsPieces.{stopped}
use Rattle.rendering_page.proofs.cutting.put_before.Goals as goal

pub returns-then-rest-eq0 : goal.returns-then-rest-eq0
returns-then-rest-eq0 c =
    stopped (with_letter_before c.loop-i.rest c.args.c) c.loop-i.pieces.items c.loop-i.i (λ ts. before_none c.loop-i.rest c.args.c ts c.if-rest-eq0.true) ∙ c.loop-i.invariant.1

pub returns-in-Here : goal.returns-in-Here
returns-in-Here c =
    let ps = c.loop-i.pieces.items in
    let j = c.loop-i.i in
    let leading = c.put_within.new.piece in
    let back = c.in-Here.piece in
    let qs = set ps (j - 1) leading in
    let next : (j - 1) + 1 ≡ j = omega (arith, c.loop-i-test.true) in
    let low : j ≤ length ps = omega (arith, c.loop-i.invariant.0, c.loop-i.pieces.ok.0) in
    inserted c.args.c c.loop-i.rest ps qs c.insert.new.self.items (j - 1) j c.index_mut.result.now leading back next low c.index_mut.ensures.value refl
    (c.in_ok-insert-in-Here.ensures.items ∙ ap (λ (k : ℕ). insert qs k back) next)
    (λ ts. c.in_ok-piece.ensures ts ∙ ap (λ p. with_cut c.args.c p (λ us. with_piece us leading) ts) c.in-Here.is)
    ∙ c.loop-i.invariant.1
