use Rattle.std.proofs.Common.{ap}
use Rattle.biblatex_fields.specs.Fields.{named_fields_view, value_named}
use Rattle.biblatex_fields.proofs.FieldsEntries.{ordered_there}
use Rattle.biblatex_fields.proofs.fields.Fields.new.Goals as goal

pub invariant_of-result : goal.invariant_of-result
invariant_of-result c = (ordered_there c.new.result.entries c.new.ensures.ordered, λ name unmarked. ap (λ es. value_named name (named_fields_view es)) c.new.ensures.empty)
