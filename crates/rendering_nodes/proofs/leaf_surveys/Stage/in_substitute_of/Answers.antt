use Rattle.std.proofs.Common.{List, ap, ◌∙◌}
use Rattle.rendering_leaves.specs.NodeSettings.{SpecialForm}
use Rattle.rendering_leaves.specs.Views.{form_view}
use Rattle.rendering_nodes.specs.Admission.{substitute_form}
use Rattle.rendering_nodes.specs.Views.{macros_of, stage_view}
use Rattle.rendering_style.specs.Opening.{each_node, open_node}
use Rattle.rendering_style.specs.Views.{nodes_view}
use Rattle.rendering_taxonomy.specs.declared.variable.NameVariable.{NameVariable}
use Rattle.rendering_nodes.proofs.leaf_surveys.Stage.in_substitute_of.Goals as goal

pub returns-clause-stage : goal.returns-clause-stage
returns-clause-stage c = λ a.
    let xs = each_node (open_node c.args.levels (macros_of c.args.self.now.walk.now)) (nodes_view c.args.substitute.now) in
    ap (λ (f : SpecialForm). record (stage_view a c.args.self.now) { form = f })
    (c.substitute_form-form.ensures
    ∙ ap (λ (vs : List NameVariable). substitute_form (form_view c.args.self.now.form) vs xs) c.as_slice-variables.ensures.value)
