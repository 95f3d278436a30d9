use Rattle.std.proofs.Common.{◌≡◌, ◌++◌, drop}
use Rattle.laws.specs.Borrowed.{borrowed}
use Rattle.programs.specs.Files.{read_at}
use Rattle.cite_csl_styles.specs.Sources.{files_at}
use Rattle.cite_csl_styles.specs.Views.{sources_view}
use Rattle.cite_csl_styles.proofs.sources.files_at.Given as goal

abbrev pub invariant-loop-path : goal.invariant-loop-path
invariant-loop-path l = sources_view l.found.items ++ files_at (read_at l.files) (borrowed (drop l.path-index l.paths)) ≡ files_at (read_at l.files) (borrowed l.paths)
