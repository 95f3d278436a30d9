use Rattle.std.proofs.Common.{◌∙◌}
use Rattle.cite_csl_styles.specs.Views.{source_view}
use Rattle.cite_csl_styles.proofs.Founds.{no_text}
use Rattle.cite_csl_styles.proofs.sheets.text_at.Goals as goal

pub returns-in-Ok-clause-utf8 : goal.returns-in-Ok-clause-utf8
returns-in-Ok-clause-utf8 c = rw c.in-Ok.ensures.cases.0 c.in-Ok.ensures.cases.1

pub returns-in-Err-clause-stop : goal.returns-in-Err-clause-stop
returns-in-Err-clause-stop c = no_text (source_view c.args.file) c.valid_up_to.result c.refused_at.result c.in-Err.ensures.cases.0 (c.valid_up_to.ensures ∙ c.in-Err.ensures.valid_len) c.refused_at.ensures
