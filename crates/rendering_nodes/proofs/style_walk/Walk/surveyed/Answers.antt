use Rattle.std.proofs.Common.{ap, ◌∙◌}
use Rattle.std.specs.List.{each_same}
use Rattle.rendering_leaves.specs.NodeSettings.{State}
use Rattle.rendering_leaves.specs.Views.{setting_view}
use Rattle.rendering_nodes.specs.Views.{macros_of, stage_view, walk_context}
use Rattle.rendering_nodes.proofs.FindingsAppended.{surveyed_is}
use Rattle.rendering_nodes.proofs.style_walk.Walk.surveyed.Goals as goal

pub returns : goal.returns
returns g c =
    let a = g.E.EntryLike.answers c.args.entry.now in
    surveyed_is (walk_context a c.args.self.now) (setting_view c.args.setting.now) c.args.state.now c.args.levels (macros_of c.stage-stage.result.walk.now) (macros_of c.args.self.now) c.args.node.now
    (stage_view a c.stage-stage.result) c.in_ok-found.found c.new-inside.result.items _ _ c.survey_node.new.findings
    c.new-inside.ensures.items c.in_ok-found.ensures (c.stage-stage.ensures.index a) c.stage-stage.ensures.macros (ap (λ (st : State). st.has_date) c.state.view_is)
    (each_same _ _ c.in_ok-clone.ensures.cases.0 ∙ ap (λ (st : State). st.suppressed) c.state.view_is)
