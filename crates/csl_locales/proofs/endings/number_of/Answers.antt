use Rattle.std.proofs.Common.{sym, ◌∙◌}
use Rattle.csl_locales.proofs.OrdinalWords.{no_number}
use Rattle.csl_locales.proofs.endings.number_of.Goals as goal

pub returns : goal.returns
returns c = sym (no_number c.args.word.now (sym c.is_as_long.ensures ∙ c.if-is_as_long.false))
