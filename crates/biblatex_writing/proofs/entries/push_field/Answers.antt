use Rattle.std.proofs.Common.{ap}
use Rattle.biblatex_content.specs.Views.{styled}
use Rattle.biblatex_fields.specs.Value.{field_value_view}
use Rattle.biblatex_writing.proofs.EntriesWritten.{field_line}
use Rattle.biblatex_writing.proofs.entries.push_field.Goals as goal

pub returns : goal.returns
returns g c =
    field_line g.T.Target.takes c.args.target.now c.push_str.new.self c.push_str-2.new.self c.push_content.new.target c.push_str-3.new.self c.args.name.now c.written_name.result.now (field_value_view c.args.value.now.items)
    c.is_verbatim_field.result (styled c.as_slice.result.now) c.written_name.ensures c.is_verbatim_field.ensures (ap styled c.as_slice.ensures.value) c.push_str.ensures c.push_str-2.ensures c.push_content.ensures c.push_str-3.ensures
