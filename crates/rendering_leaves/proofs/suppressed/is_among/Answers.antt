use Rattle.std.proofs.Common.{◌∙◌}
use Rattle.std.specs.List.{list_any}
use Rattle.rendering_taxonomy.specs.declared.variable.Variable.{Variable}
use Rattle.rendering_context.proofs.VariablesIndices.{same_variable}
use Rattle.rendering_leaves.proofs.suppressed.is_among.Goals as goal

pub returns : goal.returns
returns c = c.contains.ensures.value ∙ (λ i. list_any (λ (w : Variable). same_variable c.args.variable w i) c.args.variables.now)
