use Rattle.std.proofs.Common.{◌<◌, ◌≤◌, length, ◌∙◌, arith}
use Rattle.std.proofs.Math.Nat.{le_refl}
use Rattle.std.proofs.lemmas.List.{length-set}
use Rattle.rendering_style.specs.Views.{macro_view}
use Rattle.sorting_styles.specs.Styles.{sorting_macro}
use Rattle.sorting_styles.proofs.Changed.{changed_all, changed_on, unvisited_on}
use Rattle.sorting_styles.proofs.style.change_macros.Goals as goal

pub loop-called-preserved : goal.loop-called-preserved
loop-called-preserved c =
    let xs = c.loop-called.macros in
    let i = c.loop-called.called-index in
    let y = c.change_macro.new.called in
    let less : i < length xs = omega (arith, c.loop-called-test.true, c.loop-called.invariant.0.0) in (
      (length-set xs i y ∙ c.loop-called.invariant.0.0, unvisited_on c.args.macros.now xs i y c.loop-called.invariant.0.1),
      changed_on macro_view sorting_macro c.args.macros.now xs i c.called-item.result y less c.loop-called.invariant.0.0
          (c.loop-called.invariant.0.1 i c.called-item.result (le_refl i)) c.in_ok-change_macro.ensures c.loop-called.invariant.1,
    )

pub returns : goal.returns
returns c =
    let all : length c.loop-called.macros ≤ c.loop-called.called-index = omega (arith, c.loop-called-test.false, c.loop-called.invariant.0.0) in
    changed_all macro_view sorting_macro c.args.macros.now c.loop-called.macros c.loop-called.called-index all c.loop-called.invariant.0.0 c.loop-called.invariant.1
