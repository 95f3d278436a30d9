use Rattle.std.proofs.Common.{◌≡◌, drop}
use Rattle.std.specs.List.{list_any}
use Rattle.rendering_taxonomy.specs.Variables.{is_name_variable}
use Rattle.rendering_nodes.proofs.form_admission.is_among_names.Given as goal

abbrev pub invariant-loop-other : goal.invariant-loop-other
invariant-loop-other l = list_any (is_name_variable l.variable) (drop l.other-index l.variables) ≡ list_any (is_name_variable l.variable) l.variables
