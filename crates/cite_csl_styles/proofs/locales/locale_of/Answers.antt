use Rattle.std.proofs.Common.{◌≡◌, Err, rules, sym, ◌∙◌}
use Rattle.xml_tree.specs.Views.{element_view}
use Rattle.csl_nodes.specs.Views.{words_view}
use Rattle.cite_csl_styles.specs.Sheets.{Found, IsCslRead, IsRootOf, locale_in}
use Rattle.cite_csl_styles.specs.Stages.{Gives}
use Rattle.cite_csl_styles.specs.Views.{source_view}
use Rattle.cite_csl_styles.proofs.LocalesFound.{root_localized}
use Rattle.cite_csl_styles.proofs.Staged.{then_stops}
use Rattle.cite_csl_styles.proofs.Stopped.{stop_weaker}
use Rattle.cite_csl_styles.proofs.locales.locale_of.Goals as goal

pub returns-in_err-root : goal.returns-in_err-root
returns-in_err-root c =
    let file = source_view c.args.file in
    let words = words_view c.args.words.now in
    let e = c.in_err-root.field-0.0 in
    let is : c.from_residual.result ≡ Err e = search rules in
    rw is (then_stops e (IsCslRead file) (λ (f : Found). Gives (locale_in words f f.means)) (stop_weaker e (IsRootOf file) (IsCslRead file) (λ lines h. h) c.in_err-root.ensures))

pub returns-then-is_called : goal.returns-then-is_called
returns-then-is_called c =
    root_localized (words_view c.args.words.now) (source_view c.args.file) (element_view c.in_ok-root.root) c.localized.result c.in_ok-root.ensures (sym c.is_called.ensures ∙ c.if-is_called.true) c.localized.ensures
