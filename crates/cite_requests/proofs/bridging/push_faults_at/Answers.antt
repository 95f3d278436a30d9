use Rattle.std.proofs.Common.{List, map, ◌++◌, slice_get, ap, ◌∙◌}
use Rattle.std.proofs.lemmas.Result.{on_ok_weaker}
use Rattle.biblatex.specs.Entries.{source_view}
use Rattle.interop.specs.Bridge.{Fault}
use Rattle.interop.specs.Views.{fault_view}
use Rattle.cite_requests.proofs.CatalogsWorks.{faults_at, with_dates}
use Rattle.cite_requests.proofs.bridging.push_faults_at.Goals as goal

pub returns-in-Some : goal.returns-in-Some
returns-in-Some c =
    let o = slice_get c.args.file.now.entries c.args.index in
    let d = source_view c.in-Some.read.now in
    on_ok_weaker c.push_work_faults.result (λ step rest. step rest ∙ ap (λ (fs : List Fault). map fault_view c.args.faults.now.items ++ fs) (faults_at o d rest (with_dates o d c.in-Some.ensures))) c.push_work_faults.ensures
