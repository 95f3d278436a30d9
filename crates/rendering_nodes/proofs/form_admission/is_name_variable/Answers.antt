use Rattle.std.proofs.Common.{◌∙◌}
use Rattle.rendering_taxonomy.specs.Variables.{is_name_variable}
use Rattle.rendering_taxonomy.specs.contracts.variable.NameVariablePartialEq.TheImpl as names
use Rattle.rendering_taxonomy.proofs.Indices.{Decides-is_name_variable, Decides-names}
use Rattle.rendering_tree.proofs.ViewsEquality.{agreed}
use Rattle.rendering_nodes.proofs.form_admission.is_name_variable.Goals as goal

pub returns : goal.returns
returns c =
    c.eq.ensures
    ∙ agreed (names.ghosts.eq c.args.variable c.args.other) (is_name_variable c.args.variable c.args.other) (Decides-names c.args.variable c.args.other) (Decides-is_name_variable c.args.variable c.args.other)
