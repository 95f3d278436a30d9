use Rattle.std.proofs.Common.{string_bytes}
use Rattle.cite_csl_styles.specs.Views.{source_view}
use Rattle.cite_csl_styles.proofs.Founds.{text_said}
use Rattle.cite_csl_styles.proofs.sheets.text_refused.Goals as goal

pub returns-in-Ok-clause-refusal : goal.returns-in-Ok-clause-refusal
returns-in-Ok-clause-refusal c =
    text_said _ (source_view c.args.file) c.refused_left.result (string_bytes c.in-Ok.why) c.as_str.result.now c.in-Ok.left c.in-Ok.ensures c.as_str.ensures.value c.refused_left.ensures
