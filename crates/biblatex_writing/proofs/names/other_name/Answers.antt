use Rattle.std.proofs.Common.{sym, ap, ◌∙◌}
use Rattle.biblatex_writing.specs.FieldNames.{is_third_of_written}
use Rattle.biblatex_writing.proofs.NamesMoved.{no_other_name}
use Rattle.biblatex_writing.proofs.names.other_name.Goals as goal

pub returns-then-not-is_third_of_written : goal.returns-then-not-is_third_of_written
returns-then-not-is_third_of_written c =
    no_other_name c.args.name.now (sym (ap is_third_of_written c.third_byte.ensures) ∙ (sym c.is_third_of_written.ensures ∙ c.if-not-is_third_of_written.true))
