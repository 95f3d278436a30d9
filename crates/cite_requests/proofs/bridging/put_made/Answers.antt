use Rattle.std.proofs.Common.{map, slice_get, ◌∙◌}
use Rattle.std.proofs.lemmas.Result.{on_ok_weaker}
use Rattle.biblatex.specs.Entries.{source_view}
use Rattle.interop.specs.Views.{fault_view, library_view}
use Rattle.cite_requests.proofs.CatalogsWorks.{works_at}
use Rattle.cite_requests.proofs.bridging.put_made.Goals as goal

pub returns : goal.returns
returns c =
    on_ok_weaker c.put_work.result (λ step rest.
    step rest ∙ works_at (map fault_view c.args.faults.now.items) (library_view c.args.library.now) (slice_get c.args.file.now.entries c.args.index) (source_view c.in_ok-read.read) rest c.in_ok-read.ensures) c.put_work.ensures
