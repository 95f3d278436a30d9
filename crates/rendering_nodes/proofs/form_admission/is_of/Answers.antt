use Rattle.std.proofs.Common.{ap, ◌∙◌}
use Rattle.std.specs.List.{list_any}
use Rattle.rendering_taxonomy.specs.Variables.{is_name_variable}
use Rattle.rendering_nodes.proofs.form_admission.is_of.Goals as goal

pub returns : goal.returns
returns c = c.is_among_names.ensures ∙ ap (list_any (is_name_variable c.args.variable)) c.as_slice.ensures.value
