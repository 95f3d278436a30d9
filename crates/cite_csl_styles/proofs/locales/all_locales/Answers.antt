use Rattle.csl_nodes.specs.Views.{words_view}
use Rattle.std.proofs.lemmas.List.{get_or_default}
use Rattle.cite_csl_styles.specs.Sheets.{IsLocale}
use Rattle.cite_csl_styles.specs.Views.{source_view}
use Rattle.cite_csl_styles.proofs.Gathered.{gathered_next}
use Rattle.cite_csl_styles.proofs.locales.all_locales.Goals as goal

pub loop-file-preserved : goal.loop-file-preserved
loop-file-preserved c =
    gathered_next (IsLocale (words_view c.args.words.now)) source_view c.args.files.now c.loop-file.file-index _ _ _ _ _ c.loop-file-test.true (get_or_default _ _ _ _ c.loop-file-test.true) c.loop-file.invariant c.in_ok-push_locale.ensures
