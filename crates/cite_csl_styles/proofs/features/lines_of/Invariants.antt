use Rattle.std.proofs.Common.{◌≡◌, ◌++◌, map, drop}
use Rattle.fault_lines.specs.Views.{IsIn, lines_view}
use Rattle.csl_features.specs.Views.{feature_view}
use Rattle.cite_csl_styles.specs.FeatureLines.{lines_for}
use Rattle.cite_csl_styles.specs.Views.{source_view}
use Rattle.cite_csl_styles.proofs.features.lines_of.Given as goal

abbrev pub invariant-loop-feature : goal.invariant-loop-feature
invariant-loop-feature l = record {
  lines : lines_view l.lines ++ lines_for (source_view l.file) l.words (map feature_view (drop l.feature-index l.asked)) ≡ lines_for (source_view l.file) l.words (map feature_view l.asked);
  place : IsIn l.file.bytes.now l.lines;
}
