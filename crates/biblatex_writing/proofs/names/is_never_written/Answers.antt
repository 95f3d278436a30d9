use Rattle.std.proofs.Common.{sym, ap, ◌∙◌}
use Rattle.biblatex_writing.specs.FieldNames.{is_third_of_read}
use Rattle.biblatex_writing.proofs.NamesMoved.{is_written}
use Rattle.biblatex_writing.proofs.names.is_never_written.Goals as goal

pub returns-then-not-is_third_of_read : goal.returns-then-not-is_third_of_read
returns-then-not-is_third_of_read c =
    is_written c.args.name.now (sym (ap is_third_of_read c.third_byte.ensures) ∙ (sym c.is_third_of_read.ensures ∙ c.if-not-is_third_of_read.true))
