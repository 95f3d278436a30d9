use Rattle.std.proofs.Common.{map, slice_get, ◌∙◌}
use Rattle.std.proofs.lemmas.Result.{on_ok_weaker}
use Rattle.biblatex.specs.Entries.{source_view}
use Rattle.interop.specs.Views.{fault_view, library_view}
use Rattle.cite_requests.proofs.CatalogsWorks.{works_at}
use Rattle.cite_requests.proofs.bridging.put_at.Goals as goal

pub returns-in-Some : goal.returns-in-Some
returns-in-Some c =
    on_ok_weaker c.put_work.result (λ step rest.
    step rest ∙ works_at (map fault_view c.args.faults.now.items) (library_view c.args.library.now) (slice_get c.args.file.now.entries c.args.index) (source_view c.in-Some.read.now) rest c.in-Some.ensures) c.put_work.ensures
