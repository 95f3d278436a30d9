use Rattle.rendering_leaves.specs.Views.{form_view}
use Rattle.rendering_nodes.specs.Views.{macros_of, stage_view, survey_view, walk_context}
use Rattle.rendering_nodes.proofs.OpenedAppended.{all_surveyed}
use Rattle.rendering_nodes.proofs.style_walk.Walk.survey.Goals as goal

pub returns : goal.returns
returns g c =
    let a = g.E.EntryLike.answers c.args.entry.now in
    all_surveyed c.survey_all.result survey_view _ _ (stage_view a c.stage-stage.result)
    (record { context = walk_context a c.args.self.now; form = form_view c.args.form; has_date = c.args.state.now.has_date; suppressed = c.args.state.now.suppressed })
    (macros_of c.stage-stage.result.walk.now) (macros_of c.args.self.now) c.args.nodes.now (c.stage-stage.ensures.index a) c.stage-stage.ensures.macros c.survey_all.ensures
