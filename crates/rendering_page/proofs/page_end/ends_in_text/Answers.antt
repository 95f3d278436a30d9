use Rattle.std.proofs.Common.{◌≡◌, ◌≤◌, ◌-◌, ◌+◌, true, not, length, take, reverse, ap, sym, ◌∙◌, arith}
use Rattle.std.specs.Str.{chars}
use Rattle.std.proofs.lemmas.List.{take_all}
use Rattle.laws.specs.Text.{is_filled}
use Rattle.rendering_tree.specs.Tokens.{last_backwards}
use Rattle.rendering_page.specs.Cursors.{begins}
use Rattle.rendering_page.specs.Views.{pieces_view}
use Rattle.rendering_page.proofs.CursorsBackwards.{at_start, append_read}
use Rattle.rendering_page.proofs.TailEnds.{begins_nothing, ends_backwards}
use Rattle.rendering_page.proofs.page_end.ends_in_text.Goals as goal

pub loop-i-init : goal.loop-i-init
loop-i-init c =
    let ps = c.args.pieces.now in
    let end = chars c.args.end.now in
    let all : length ps ≤ length ps = omega arith in
    (all, ap (λ qs. begins (reverse end) (last_backwards (pieces_view qs))) (take_all (length ps) ps all) ∙ ends_backwards end (pieces_view ps), c.utf8.end)

pub returns-in_default : goal.returns-in_default
returns-in_default c =
    let ps = c.args.pieces.now in
    let rest = chars c.loop-i.rest.now in
    let filled : is_filled rest ≡ true = cc in
    let j = c.loop-i.i in
    let p = c.index-pieces-i.result in
    let next : (j - 1) + 1 ≡ j = omega (arith, c.loop-i-test.true) in
    let low : j ≤ length ps = c.loop-i.invariant.0 in
    sym
    (sym c.loop-i.invariant.1
    ∙ ap (begins (reverse rest)) (append_read c.loop-i.met ps (j - 1) j p next low c.index-pieces-i.is ∙ c.in_default.ensures.backwards (pieces_view (take (j - 1) ps)))
    ∙ begins_nothing rest
    ∙ ap not filled)

pub returns : goal.returns
returns c =
    let rest = chars c.loop-i.rest.now in
    let first : c.loop-i.i ≡ 0 = omega (arith, c.loop-i-test.false) in
    ap not c.has_text-2.ensures
    ∙ sym (begins_nothing rest)
    ∙ ap (begins (reverse rest)) (sym (at_start c.loop-i.met c.args.pieces.now c.loop-i.i first))
    ∙ c.loop-i.invariant.1
