use Rattle.std.proofs.Common.{◌∙◌}
use Rattle.biblatex_fields.proofs.FieldsEntries.{borrowed, value_there}
use Rattle.biblatex_fields.proofs.fields.Fields.get.Goals as goal

pub returns : goal.returns
returns c =
    rw (← c.self.view_is) (borrowed c.get.result _ c.get.ensures.value ∙ value_there c.args.name.now c.self.inside.values.entries)
