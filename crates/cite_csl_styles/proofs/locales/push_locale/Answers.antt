use Rattle.std.proofs.Common.{string_bytes}
use Rattle.rendering_locale.specs.Views.{locale_view}
use Rattle.csl_nodes.specs.Views.{words_view}
use Rattle.cite_csl_styles.specs.Sheets.{IsLocale}
use Rattle.cite_csl_styles.specs.Views.{source_view}
use Rattle.cite_csl_styles.proofs.Gathered.{adds_one}
use Rattle.cite_csl_styles.proofs.locales.push_locale.Goals as goal

pub returns-in_ok-push-in-Ok : goal.returns-in_ok-push-in-Ok
returns-in_ok-push-in-Ok c =
    adds_one (IsLocale (words_view c.args.words.now) (source_view c.args.file)) locale_view c.args.locales.now.items c.push.new.self.items c.in-Ok.locale (string_bytes c.args.refused.now) c.in-Ok.ensures
    c.in_ok-push-in-Ok.ensures.items
