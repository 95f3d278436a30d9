use Rattle.std.proofs.Common.{◌≡◌, ◌<◌, ℕ, List, drop, length}
use Rattle.cite_csl_styles.specs.Sources.{lines_at}
use Rattle.cite_csl_styles.specs.Views.{sources_view}
use Rattle.cite_csl_styles.proofs.joined_faults.file_with.Given as goal

abbrev pub invariant-loop-before : goal.invariant-loop-before
invariant-loop-before l = record {
  said : (why : List ℕ) → lines_at (sources_view (drop l.before l.files)) l.left why ≡ lines_at (sources_view l.files) l.at why;
  more : 0 < length l.files → l.before < length l.files;
}
