use Rattle.std.proofs.Common.{sym, ap, ◌∙◌}
use Rattle.biblatex_inherited_fields.specs.Table.{source_name}
use Rattle.biblatex_suppliers.specs.Asked.{other_source}
use Rattle.biblatex_suppliers.specs.FieldNames.{field_name}
use Rattle.biblatex_suppliers.proofs.AskingNames.{other_is, own_source}
use Rattle.biblatex_suppliers.proofs.asked.source_of.Goals as goal

pub returns-in-Some : goal.returns-in-Some
returns-in-Some c =
    let same = c.source_name.ensures ∙ ap (source_name c.args.to c.args.from) c.text.ensures in
    other_is (source_name c.args.to c.args.from (field_name c.args.wanted)) (field_name c.in-Some.name) (c.in-Some.ensures ∙ ap other_source same)

pub returns-in-None : goal.returns-in-None
returns-in-None c =
    let same = c.source_name.ensures ∙ ap (source_name c.args.to c.args.from) c.text.ensures in
    sym (own_source c.args.to c.args.from (field_name c.args.wanted) (c.in-None.ensures ∙ ap other_source same))
