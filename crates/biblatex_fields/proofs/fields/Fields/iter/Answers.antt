use Rattle.std.proofs.Common.{subst}
use Rattle.biblatex_fields.specs.Fields.{AreInOrder}
use Rattle.biblatex_fields.proofs.FieldsEntries.{ordered_there}
use Rattle.biblatex_fields.proofs.fields.Fields.iter.Goals as goal

pub returns-clause-ordered : goal.returns-clause-ordered
returns-clause-ordered c = subst AreInOrder c.self.view_is (ordered_there c.self.inside.values.entries c.iter.ensures.ordered)
