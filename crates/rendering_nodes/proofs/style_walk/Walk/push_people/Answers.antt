use Rattle.std.proofs.Common.{ap, ◌∙◌}
use Rattle.std.proofs.lemmas.Result.{on_ok_weaker}
use Rattle.rendering_leaves.specs.Views.{setting_view}
use Rattle.rendering_names.specs.Names.{node_options, properties_by}
use Rattle.rendering_people.specs.Views.{all_lent_answered_view}
use Rattle.rendering_names.specs.Views.{names_parts_view}
use Rattle.rendering_nodes.specs.Views.{walk_context}
use Rattle.rendering_nodes.proofs.ElementsSteps.{own_as}
use Rattle.rendering_nodes.proofs.style_walk.Walk.push_people.Goals as goal

pub returns : goal.returns
returns c = λ a.
    let context = walk_context a c.args.self.now in
    let s = setting_view c.args.setting.now in
    let h = names_parts_view c.args.names.now in
    let people = all_lent_answered_view c.args.people.now in
    on_ok_weaker c.push_own.result
    (own_as context s h c.in_ok-own.own (properties_by (node_options h s.options) context.properties.is_first people) people c.args.state.now c.push_own.new.state
    (c.in_ok-own.ensures ∙ ap (λ o. properties_by o context.properties.is_first people) c.options-options.ensures))
    (c.push_own.ensures a)
