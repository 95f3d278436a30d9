use Rattle.std.proofs.Common.{arith, ◌<◌, ◌≤◌, length, ap, ◌∙◌}
use Rattle.std.specs.List.{flat_map}
use Rattle.rendering_page.specs.Views.{quotes_view}
use Rattle.rendering_people.specs.Views.{all_lent_answered_view}
use Rattle.rendering_names.specs.Names.{indexed_variable}
use Rattle.rendering_names.specs.Views.{append_here, names_parts_view, name_style_view}
use Rattle.rendering_names.proofs.PeopleSteps.{people-more, others-remain, people-all}
use Rattle.rendering_names.proofs.style.NameStyle.push_variables.Goals as goal

pub loop-index-preserved : goal.loop-index-preserved
loop-index-preserved c =
    let low : c.loop-index.index < length c.args.counts.now = omega (arith, c.loop-index-test.true, c.min-index-end.ensures) in
    let high : c.loop-index.index < length c.args.people.now = omega (arith, c.loop-index-test.true, c.min-index-end.ensures) in (
      people-more (quotes_view c.args.self.now.setting.quotes.now) (name_style_view c.args.self.now) (names_parts_view c.args.node.now) c.args.counts.now c.args.forms.now c.loop-index.rest.now c.args.people.now
          c.split_at.result.0.now c.loop-index.index _ c.index-people-index.result c.split_forms.result.0.now c.args.page.now c.loop-index.page c.push_next.new.page
          low high c.index-people-index.is c.split_forms.ensures.first c.loop-index.invariant.1 c.split_at.ensures.front c.loop-index.invariant.0 c.in_ok-push_next.ensures,
      others-remain c.args.counts.now c.args.forms.now c.loop-index.rest.now c.split_forms.result.1.now c.loop-index.index _ low c.split_forms.ensures.others c.loop-index.invariant.1,
    )

pub returns : goal.returns
returns c =
    let past : c.min-index-end.result ≤ c.loop-index.index = omega (arith, c.loop-index-test.false) in
    c.loop-index.invariant.0
    ∙ ap (λ ps. append_here c.args.self.now (flat_map (indexed_variable (name_style_view c.args.self.now) (names_parts_view c.args.node.now) (all_lent_answered_view c.args.people.now)) ps) c.args.page.now)
    (people-all c.args.counts.now c.args.forms.now c.args.people.now c.min-index-end.result c.loop-index.index c.min-index-end.ensures past)
