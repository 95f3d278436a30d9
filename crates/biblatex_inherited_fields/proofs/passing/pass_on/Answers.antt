use Rattle.std.proofs.lemmas.Result.{on_ok_weaker}
use Rattle.biblatex_entries.specs.Roles.{role_of}
use Rattle.biblatex_entries.specs.TypeNames.{type_name}
use Rattle.biblatex_inherited_fields.specs.Views.{table_view}
use Rattle.biblatex_inherited_fields.proofs.TablePassing.{to_xdata, to_others}
use Rattle.biblatex_inherited_fields.proofs.passing.pass_on.Goals as goal

pub returns-in-XData : goal.returns-in-XData
returns-in-XData c = on_ok_weaker c.pass_on_all.result (to_xdata c.args.to (role_of (type_name c.args.from.now.entry_type)) (table_view c.args.from.now.fields) c.args.fields.now c.pass_on_all.new.fields c.in-XData.is) c.pass_on_all.ensures

pub returns-in_default : goal.returns-in_default
returns-in_default c =
    on_ok_weaker c.pass_on_named.result (to_others c.args.to (role_of (type_name c.args.from.now.entry_type)) (table_view c.args.from.now.fields) c.args.fields.now c.pass_on_named.new.fields c.in_default.not-Article c.in_default.not-PartOfBook c.in_default.not-PartOfOther c.in_default.not-XData) c.pass_on_named.ensures
