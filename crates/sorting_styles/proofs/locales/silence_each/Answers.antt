use Rattle.std.proofs.Common.{◌<◌, ◌≤◌, length, ◌∙◌, arith}
use Rattle.std.proofs.Math.Nat.{le_refl}
use Rattle.std.proofs.lemmas.List.{length-set}
use Rattle.rendering_locale.specs.Views.{locale_view}
use Rattle.sorting_styles.specs.Locales.{silenced}
use Rattle.sorting_styles.proofs.Changed.{changed_all, changed_on, unvisited_on}
use Rattle.sorting_styles.proofs.locales.silence_each.Goals as goal

pub loop-locale-preserved : goal.loop-locale-preserved
loop-locale-preserved c =
    let xs = c.loop-locale.locales in
    let i = c.loop-locale.locale-index in
    let y = c.silence.new.locale in
    let less : i < length xs = omega (arith, c.loop-locale-test.true, c.loop-locale.invariant.0.0) in (
      (length-set xs i y ∙ c.loop-locale.invariant.0.0, unvisited_on c.args.locales.now xs i y c.loop-locale.invariant.0.1),
      changed_on locale_view silenced c.args.locales.now xs i c.locale-item.result y less c.loop-locale.invariant.0.0
          (c.loop-locale.invariant.0.1 i c.locale-item.result (le_refl i)) c.in_ok-silence.ensures c.loop-locale.invariant.1,
    )

pub returns : goal.returns
returns c =
    let all : length c.loop-locale.locales ≤ c.loop-locale.locale-index = omega (arith, c.loop-locale-test.false, c.loop-locale.invariant.0.0) in
    changed_all locale_view silenced c.args.locales.now c.loop-locale.locales c.loop-locale.locale-index all c.loop-locale.invariant.0.0 c.loop-locale.invariant.1
