use Rattle.std.proofs.Common.{string_bytes}
use Rattle.programs.specs.Files.{read_at}
use Rattle.cite_csl_styles.specs.Views.{found_view, source_view}
use Rattle.cite_csl_styles.proofs.Founds.{parents_found, parents_refused}
use Rattle.cite_csl_styles.proofs.parents.parent_paths.Goals as goal

pub returns-in-Ok : goal.returns-in-Ok
returns-in-Ok c =
    parents_found (read_at c.args.files.now) c.args.style.now (source_view c.file_at.result) (found_view c.in-Ok.found) c.paths_for.result c.file_at.ensures c.in-Ok.ensures c.paths_for.ensures

pub returns : goal.returns
returns c =
    parents_refused (read_at c.args.files.now) c.args.style.now (source_view c.file_at.result) (string_bytes c.in-Err-Refused.field-0-0) c.file_at.ensures (rw c.in-Err-Refused.field-0-is at c.in-Err-Refused.ensures)
