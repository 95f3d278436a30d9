use Rattle.std.proofs.Common.{◌≡◌, Err, rules}
use Rattle.rendering_locale.specs.Views.{locale_view}
use Rattle.csl_nodes.specs.Views.{words_view}
use Rattle.cite_csl_styles.specs.Sheets.{Found, IsCslRead, locale_in}
use Rattle.cite_csl_styles.specs.Stages.{Gives}
use Rattle.cite_csl_styles.specs.Views.{source_view}
use Rattle.cite_csl_styles.proofs.LocalesFound.{locale_found, style_refused}
use Rattle.cite_csl_styles.proofs.Staged.{then_stops}
use Rattle.cite_csl_styles.proofs.locales.locale_by_meaning.Goals as goal

pub returns-in_err-found : goal.returns-in_err-found
returns-in_err-found c =
    let is : c.from_residual.result ≡ Err c.in_err-found.field-0.0 = search rules in
    rw is (then_stops c.in_err-found.field-0.0 (IsCslRead (source_view c.args.file)) (λ (f : Found). Gives (locale_in (words_view c.args.words.now) f f.means)) c.in_err-found.ensures)

pub returns-in-Localized : goal.returns-in-Localized
returns-in-Localized c =
    locale_found (words_view c.args.words.now) (source_view c.args.file) c.in_ok-found.found c.in-Localized.words c.in-Localized.locale (locale_view c.in_ok-locale-in-Localized.field-0) c.in_ok-found.ensures c.in-Localized.is
    c.in_ok-locale-in-Localized.ensures

pub returns : goal.returns
returns c = style_refused (words_view c.args.words.now) (source_view c.args.file) c.in_ok-found.found c.refused_left.result c.in_ok-found.ensures c.in_default.not-Localized c.refused_left.ensures
