use Rattle.std.proofs.Common.{not, sym, ◌∙◌}
use Rattle.rendering_context.specs.Answering.{answer_to, is_missing}
use Rattle.rendering_leaves.specs.Views.{form_view}
use Rattle.rendering_nodes.specs.Admission.{allows_variable}
use Rattle.rendering_nodes.specs.Views.{stage_view}
use Rattle.rendering_nodes.proofs.SurveySteps.{never}
use Rattle.rendering_nodes.proofs.leaf_surveys.Stage.is_printed.Goals as goal

pub returns-then-not-allows_variable : goal.returns-then-not-allows_variable
returns-then-not-allows_variable g c =
    never (not (is_missing (answer_to (stage_view (g.E.EntryLike.answers c.args.entry.now) c.args.self.now).context c.args.self.now.suppressed.now c.args.form c.args.variable)))
    (allows_variable (form_view c.args.self.now.form) c.args.variable) (sym c.allows_variable.ensures ∙ c.if-not-allows_variable.true)
