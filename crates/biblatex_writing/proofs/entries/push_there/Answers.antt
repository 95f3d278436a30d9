use Rattle.biblatex_fields.specs.Value.{field_value_view}
use Rattle.biblatex_writing.proofs.EntriesWritten.{there, not_there}
use Rattle.biblatex_writing.proofs.entries.push_there.Goals as goal

pub returns-in-Some : goal.returns-in-Some
returns-in-Some g c =
    there g.T.Target.takes c.args.target.now c.push_field.new.target c.args.name.now c.args.fields.now (field_value_view c.in-Some.value.now.items) c.in-Some.ensures c.push_field.ensures

pub returns-in_default : goal.returns-in_default
returns-in_default g c = not_there g.T.Target.takes c.args.target.now c.args.name.now c.args.fields.now c.in_default.ensures
