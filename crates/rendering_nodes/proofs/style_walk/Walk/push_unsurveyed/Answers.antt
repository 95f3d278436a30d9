use Rattle.rendering_leaves.specs.Views.{setting_view}
use Rattle.rendering_nodes.specs.Views.{macros_of, walk_context}
use Rattle.rendering_style.specs.Opening.{each_node, open_node}
use Rattle.rendering_style.specs.Views.{nodes_view}
use Rattle.rendering_nodes.proofs.FindingsKnown.{none_found}
use Rattle.rendering_nodes.proofs.style_walk.Walk.push_unsurveyed.Goals as goal

pub push_all-requires : goal.push_all-requires
push_all-requires g c =
    none_found (walk_context (g.E.EntryLike.answers c.args.entry.now) c.args.self.now) (setting_view c.args.setting.now).form c.nothing.result
    (each_node (open_node c.args.levels (macros_of c.args.self.now)) (nodes_view c.args.nodes.now)) c.nothing.ensures
