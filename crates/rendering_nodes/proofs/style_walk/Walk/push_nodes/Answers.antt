use Rattle.rendering_leaves.specs.Views.{setting_view}
use Rattle.rendering_nodes.specs.Views.{macros_of, walk_context}
use Rattle.rendering_nodes.proofs.OpenedAppended.{all_appended}
use Rattle.rendering_nodes.proofs.style_walk.Walk.push_nodes.Goals as goal

pub returns : goal.returns
returns g c =
    all_appended c.push_unsurveyed.result (walk_context (g.E.EntryLike.answers c.args.entry.now) c.args.self.now) (setting_view c.args.setting.now) c.args.state.now c.push_unsurveyed.new.state
    (macros_of c.args.self.now) c.args.nodes.now c.push_unsurveyed.ensures
