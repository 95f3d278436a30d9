use Rattle.std.proofs.Common.{◌≤◌, length, ◌∙◌, arith}
use Rattle.rendering_tree.specs.Tokens.{without_letters}
use Rattle.rendering_page.proofs.ViewsPieces.{from_end, stopped}
use Rattle.rendering_page.proofs.CutsEnds.{cut_none}
use Rattle.rendering_page.proofs.cutting.cut.Goals as goal

pub loop-i-init : goal.loop-i-init
loop-i-init c =
    let ps = c.args.pieces.now.items in
    let all : length ps ≤ c.len-i.result = omega (arith, c.len-i.ensures, c.args.pieces.now.ok.0) in
    (omega (arith, c.len-i.ensures), from_end (without_letters c.args.count) ps c.len-i.result all)

pub returns-then-rest-eq0 : goal.returns-then-rest-eq0
returns-then-rest-eq0 c =
    stopped (without_letters c.loop-i.rest) c.loop-i.pieces.items c.loop-i.i (λ ts. cut_none c.loop-i.rest ts c.if-rest-eq0.true) ∙ c.loop-i.invariant.1
