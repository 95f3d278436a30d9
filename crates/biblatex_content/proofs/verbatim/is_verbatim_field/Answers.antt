use Rattle.std.proofs.Common.{sym, ap, ◌∙◌}
use Rattle.biblatex_content.specs.Verbatim.{is_third_of_verbatim}
use Rattle.biblatex_content.proofs.NamesApart.{is_ordinary}
use Rattle.biblatex_content.proofs.verbatim.is_verbatim_field.Goals as goal

pub returns-then-not-is_third_of_verbatim : goal.returns-then-not-is_third_of_verbatim
returns-then-not-is_third_of_verbatim c =
    is_ordinary c.args.key.now (sym (ap is_third_of_verbatim c.third_byte.ensures) ∙ (sym c.is_third_of_verbatim.ensures ∙ c.if-not-is_third_of_verbatim.true))
