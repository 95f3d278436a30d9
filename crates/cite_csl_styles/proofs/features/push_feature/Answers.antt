use Rattle.std.proofs.Common.{◌≡◌, ℕ, List, ◌++◌, ap₂, ◌∙◌, rules}
use Rattle.std.proofs.lemmas.Result.{on_ok_weaker}
use Rattle.fault_lines.specs.Messages.{fault_line}
use Rattle.fault_lines.specs.Views.{lines_view}
use Rattle.cite_csl_styles.proofs.features.push_feature.Goals as goal

pub returns-clause-lines : goal.returns-clause-lines
returns-clause-lines c =
    let why : c.as_str.result.now ≡ c.args.words.now ++ c.args.feature.now.name.now = search rules in
    on_ok_weaker c.push_line.result
    (λ is. is ∙ ap₂ (λ (at : ℕ) (w : List ℕ). lines_view c.args.lines.now ++ fault_line c.args.file.path.now c.args.file.bytes.now at w) c.saturating_sub-at.ensures why) c.push_line.ensures.lines
