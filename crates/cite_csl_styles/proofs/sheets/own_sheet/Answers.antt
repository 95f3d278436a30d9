use Rattle.std.proofs.Common.{◌≡◌, Result, sym, ap, ◌∙◌, codes}
use Rattle.std.specs.Option.{option_map}
use Rattle.xml_tree.specs.Views.{element_view}
use Rattle.rendering_locale.specs.CodeViews.{code_view}
use Rattle.rendering_style.specs.StyleViews.{style_view}
use Rattle.csl_nodes.specs.Views.{words_view}
use Rattle.csl_styles.specs.Views.{csl_view}
use Rattle.csl_styles.specs.declared.file.Csl.{Csl}
use Rattle.cite_csl_styles.specs.Sheets.{Sheet, own_sheet}
use Rattle.cite_csl_styles.specs.Stages.{Lines}
use Rattle.cite_csl_styles.specs.Views.{found_view}
use Rattle.cite_csl_styles.proofs.Founds.{root_refused}
use Rattle.cite_csl_styles.proofs.Meant.{style_meant}
use Rattle.cite_csl_styles.proofs.sheets.own_sheet.Goals as goal

pub sorting_of-requires : goal.sorting_of-requires
sorting_of-requires c =
    style_meant (element_view c.args.found.root) (words_view c.in-Independent.words) (style_view c.in-Independent.style) (sym (c.requires ∙ ap csl_view c.in-Independent.is))

pub returns-in-Dependent-clause-sheet : goal.returns-in-Dependent-clause-sheet
returns-in-Dependent-clause-sheet c =
    root_refused c.args.found (codes "a dependent style is no parent") c.refused_left.result
    (λ (a : Result Sheet Lines). own_sheet (option_map code_view c.args.lang) (found_view c.args.found) (csl_view c.args.found.means) ≡ a) c.refused_left.ensures
    (ap (λ (m : Csl). own_sheet (option_map code_view c.args.lang) (found_view c.args.found) (csl_view m)) c.in-Dependent.is)

pub returns-clause-sheet : goal.returns-clause-sheet
returns-clause-sheet c =
    root_refused c.args.found (codes "a locale is no style") c.refused_left-in-Localized.result
    (λ (a : Result Sheet Lines). own_sheet (option_map code_view c.args.lang) (found_view c.args.found) (csl_view c.args.found.means) ≡ a) c.refused_left-in-Localized.ensures
    (ap (λ (m : Csl). own_sheet (option_map code_view c.args.lang) (found_view c.args.found) (csl_view m)) c.in-Localized.is)
