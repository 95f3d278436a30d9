use Rattle.std.proofs.lemmas.Result.{on_ok_weaker}
use Rattle.laws.specs.Borrowed.{borrowed}
use Rattle.biblatex_fields.specs.Fields.{value_named}
use Rattle.biblatex_entries.specs.Roles.{role_of}
use Rattle.biblatex_entries.specs.TypeNames.{type_name}
use Rattle.biblatex_inherited_fields.specs.Table.{source_name, of_all}
use Rattle.biblatex_inherited_fields.proofs.TablePassing.{names_of_both}
use Rattle.biblatex_inherited_fields.proofs.passing.pass_on_both.Goals as goal

pub returns : goal.returns
returns c =
    on_ok_weaker c.pass_on_named-2.result (λ more. names_of_both (λ q. value_named (source_name c.args.to (role_of (type_name c.args.from.now.entry_type)) q) c.args.from.now.fields) c.args.fields.now c.pass_on_named.new.fields c.pass_on_named-2.new.fields of_all (borrowed c.args.names.now)
    c.in_ok-pass_on_named.ensures more) c.pass_on_named-2.ensures
