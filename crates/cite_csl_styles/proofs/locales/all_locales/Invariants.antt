use Rattle.std.proofs.Common.{map, take, string_bytes}
use Rattle.rendering_locale.specs.Views.{locale_view}
use Rattle.csl_nodes.specs.Views.{words_view}
use Rattle.cite_csl_styles.specs.Sheets.{IsLocale}
use Rattle.cite_csl_styles.specs.Views.{sources_view}
use Rattle.cite_csl_styles.proofs.Gathered.{AreGathered}
use Rattle.cite_csl_styles.proofs.locales.all_locales.Given as goal

abbrev pub invariant-loop-file : goal.invariant-loop-file
invariant-loop-file l = AreGathered (IsLocale (words_view l.words)) (sources_view (take l.file-index l.files)) (map locale_view l.locales.items) (string_bytes l.refused)
