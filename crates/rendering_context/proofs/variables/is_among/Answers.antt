use Rattle.std.proofs.Common.{◌∙◌}
use Rattle.std.specs.List.{list_any}
use Rattle.rendering_taxonomy.specs.declared.variable.Variable.{Variable}
use Rattle.rendering_context.proofs.VariablesIndices.{same_variable}
use Rattle.rendering_context.proofs.variables.is_among.Goals as goal

pub returns-then-not-is_empty : goal.returns-then-not-is_empty
returns-then-not-is_empty c = c.contains.ensures.value ∙ (λ i. list_any (λ (w : Variable). same_variable c.args.variable w i) c.args.variables.now)
