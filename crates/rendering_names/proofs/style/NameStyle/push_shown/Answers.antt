use Rattle.std.proofs.Common.{arith, ◌<◌, length}
use Rattle.rendering_page.specs.Views.{quotes_view}
use Rattle.rendering_names.specs.Views.{name_style_view}
use Rattle.rendering_names.proofs.IndexedSteps.{shown-more}
use Rattle.rendering_names.proofs.style.NameStyle.push_shown.Goals as goal

pub loop-index-preserved : goal.loop-index-preserved
loop-index-preserved c =
    let low : c.loop-index.index < length c.args.forms.now = omega (arith, c.loop-index-test.true, c.requires.shown, c.requires.forms) in
    let high : c.loop-index.index < length c.args.people.now = omega (arith, c.loop-index-test.true, c.requires.shown, c.requires.people) in
    shown-more (quotes_view c.args.self.now.setting.quotes.now) (name_style_view c.args.self.now) c.args.variable c.args.count c.args.forms.now c.args.people.now c.loop-index.index _ c.index-people-index.result
    c.args.page.now c.loop-index.page c.push_before.new.page c.push_name.new.page low high c.index-people-index.is c.loop-index.invariant c.in_ok-push_before.ensures c.in_ok-push_name.ensures
