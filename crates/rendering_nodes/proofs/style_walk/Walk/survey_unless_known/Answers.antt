use Rattle.rendering_leaves.specs.Views.{setting_view}
use Rattle.rendering_nodes.specs.Views.{macros_of, walk_context}
use Rattle.rendering_style.specs.Opening.{open_node}
use Rattle.rendering_style.specs.Views.{node_view}
use Rattle.rendering_nodes.proofs.FindingsAppended.{some_found}
use Rattle.rendering_nodes.proofs.style_walk.Walk.survey_unless_known.Goals as goal

pub returns-in-Some : goal.returns-in-Some
returns-in-Some g c =
    some_found (walk_context (g.E.EntryLike.answers c.args.entry.now) c.args.self.now) (setting_view c.args.setting.now) c.args.state.now c.args.finding c.in-Some.finding
    (open_node c.args.levels (macros_of c.args.self.now) (node_view c.args.node.now)) c.in-Some.is c.requires
