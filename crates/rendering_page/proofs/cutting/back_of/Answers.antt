use Rattle.std.proofs.Common.{◌≡◌, ◌≤◌, ◌++◌, length, take, drop, ap, sym, ◌∙◌, arith}
use Rattle.std.specs.Str.{chars}
use Rattle.std.proofs.lemmas.List.{length-take, take-append-drop}
use Rattle.rendering_page.proofs.CutsEnds.{cut_here}
use Rattle.rendering_page.proofs.CutsTexts.{ends_within}
use Rattle.rendering_page.proofs.cutting.back_of.Goals as goal

pub split_at-requires : goal.split_at-requires
split_at-requires c =
    let whole = c.args.text.now in
    let leading = c.loop-missing.leading.now in
    let e : length leading ≡ length (take (length leading) whole) = ap length c.loop-missing.invariant.leading in
    let low : length leading ≤ length whole = omega (arith, e, length-take (length leading) whole) in
    ends_within whole leading c.utf8.text c.loop-missing.invariant.spelled c.loop-missing.invariant.leading low

pub returns : goal.returns
returns c =
    let whole = c.args.text.now in
    let leading = c.loop-missing.leading.now in
    let parts = c.loop-missing.invariant.parts in
    let rest = c.split_at.result.1.now in
    let e : whole ≡ leading ++ rest =
    sym (take-append-drop (length leading) whole) ∙ ap (λ xs. xs ++ drop (length leading) whole) (sym c.loop-missing.invariant.leading) ∙ ap (λ xs. leading ++ xs) (sym c.split_at.ensures.back) in
    let none : c.loop-missing.missing ≡ 0 = omega (arith, c.loop-missing-test.false) in
    (chars leading, cut_here whole leading rest parts.0 c.args.count c.loop-missing.missing c.loop-missing.invariant.spelled e parts.1 parts.2 none)
