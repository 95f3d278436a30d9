use Rattle.biblatex_fields.specs.Fields.{value_named}
use Rattle.biblatex_entries.specs.Roles.{role_of}
use Rattle.biblatex_entries.specs.TypeNames.{type_name}
use Rattle.biblatex_inherited_fields.specs.Table.{source_name}
use Rattle.biblatex_inherited_fields.proofs.TablePassing.{names_more}
use Rattle.biblatex_inherited_fields.proofs.passing.pass_on_named.Goals as goal

pub loop-name-preserved : goal.loop-name-preserved
loop-name-preserved c =
    names_more (λ q. value_named (source_name c.args.to (role_of (type_name c.args.from.now.entry_type)) q) c.args.from.now.fields) c.args.fields.now c.loop-name.fields c.pass_on_one.new.fields c.args.names.now c.loop-name.name-index _ c.loop-name-test.true
    c.loop-name.invariant c.in_ok-pass_on_one.ensures
