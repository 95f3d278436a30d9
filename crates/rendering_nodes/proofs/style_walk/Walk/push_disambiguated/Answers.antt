use Rattle.std.proofs.Common.{◌∙◌}
use Rattle.std.proofs.lemmas.Result.{on_ok_weaker}
use Rattle.rendering_leaves.specs.Views.{setting_view}
use Rattle.rendering_people.specs.Views.{all_lent_answered_view}
use Rattle.rendering_names.specs.Views.{names_parts_view}
use Rattle.rendering_nodes.specs.Content.{disambiguated}
use Rattle.rendering_nodes.specs.Views.{walk_context}
use Rattle.rendering_nodes.proofs.ElementsSteps.{shown_as}
use Rattle.rendering_nodes.proofs.style_walk.Walk.push_disambiguated.Goals as goal

pub returns : goal.returns
returns c = λ a.
    let context = walk_context a c.args.self.now in
    on_ok_weaker c.push_shown.result
    (shown_as context (setting_view c.args.setting.now) (names_parts_view c.args.names.now) c.raised_or_own-shown.result.now (disambiguated context c.args.state.now.names c.args.own.now)
    (all_lent_answered_view c.args.people.now) c.args.state.now c.push_shown.new.state
    (c.raised_or_own-shown.ensures ∙ c.in_ok-raised.ensures a))
    (c.push_shown.ensures a)
