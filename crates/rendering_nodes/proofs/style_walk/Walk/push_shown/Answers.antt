use Rattle.std.proofs.lemmas.Result.{on_ok_weaker}
use Rattle.rendering_leaves.specs.Views.{setting_view}
use Rattle.rendering_leaves.proofs.StatesAppended.{append-page}
use Rattle.rendering_names.specs.Names.{names_pieces}
use Rattle.rendering_names.specs.Views.{names_parts_view}
use Rattle.rendering_people.specs.Views.{all_lent_answered_view}
use Rattle.rendering_nodes.specs.Views.{walk_context}
use Rattle.rendering_nodes.proofs.style_walk.Walk.push_shown.Goals as goal

pub returns : goal.returns
returns c = λ a.
    let context = walk_context a c.args.self.now in
    let s = setting_view c.args.setting.now in
    on_ok_weaker c.push_names.result
    (λ e. append-page context (names_pieces context.locales s.manner (names_parts_view c.args.names.now) s.options c.args.shown.now (all_lent_answered_view c.args.people.now)) c.args.state.now _ _ c.state.view_is e)
    (c.push_names.ensures s.options c.requires)
