use Rattle.std.proofs.Common.{ℕ, List, map, Option, ◌++◌, ap, ◌∙◌}
use Rattle.cite_csl_command.specs.Views.{asked_view}
use Rattle.cite_csl_styles.specs.FeatureLines.{feature_lines, term_lines}
use Rattle.cite_csl_styles.specs.Views.{sheet_view}
use Rattle.rendering_locale.specs.Views.{locale_view}
use Rattle.cite_csl.proofs.making.told_of.Goals as goal

pub returns : goal.returns
returns c =
    let a = asked_view c.args.asked.now in
    let s = sheet_view c.args.sheet.now in
    let locales = map locale_view c.args.locales.now in
    let terms = c.as_str.ensures.value ∙ (c.in_ok-terms.ensures ∙ ap (λ (lang : Option (List ℕ)). term_lines s lang locales) c.lang_of.ensures) in
    c.in_ok-push_str.ensures.bytes ∙ (ap (λ (lines : List ℕ). lines ++ c.as_str.result.now) c.requires ∙ ap (λ (lines : List ℕ). feature_lines s ++ lines) terms)
