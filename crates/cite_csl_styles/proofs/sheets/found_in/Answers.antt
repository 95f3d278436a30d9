use Rattle.std.proofs.Common.{subst}
use Rattle.cite_csl_styles.specs.Answers.{Answers}
use Rattle.cite_csl_styles.specs.Sheets.{IsCslRead}
use Rattle.cite_csl_styles.specs.Sources.{SourceFile}
use Rattle.cite_csl_styles.specs.Views.{found_view}
use Rattle.cite_csl_styles.proofs.sheets.found_in.Goals as goal

pub returns : goal.returns
returns c = subst (λ (f : SourceFile). Answers found_view c.found_at.result (IsCslRead f)) c.file_at.ensures c.found_at.ensures
