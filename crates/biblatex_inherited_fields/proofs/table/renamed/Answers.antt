use Rattle.std.proofs.Common.{sym, ap, ◌∙◌}
use Rattle.biblatex_inherited_fields.specs.Table.{is_third_of_renamed}
use Rattle.biblatex_inherited_fields.proofs.TableRenamed.{kept}
use Rattle.biblatex_inherited_fields.proofs.table.renamed.Goals as goal

pub returns-then-not-is_third_of_renamed : goal.returns-then-not-is_third_of_renamed
returns-then-not-is_third_of_renamed c =
    kept c.args.to c.args.from c.args.name.now (sym (ap is_third_of_renamed c.third_byte.ensures) ∙ (sym c.is_third_of_renamed.ensures ∙ c.if-not-is_third_of_renamed.true))
