use Rattle.std.proofs.Common.{◌≡◌, drop, map}
use Rattle.programs.specs.Files.{file_view, outcome_at}
use Rattle.cite_csl_styles.proofs.sources.path_at.Given as goal

abbrev pub invariant-loop-file : goal.invariant-loop-file
invariant-loop-file l = outcome_at (map file_view (drop l.file-index l.files)) l.path ≡ outcome_at (map file_view l.fn.files) l.fn.path
