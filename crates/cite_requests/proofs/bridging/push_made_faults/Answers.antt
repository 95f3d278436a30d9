use Rattle.std.proofs.Common.{ℕ, List, map, ◌++◌, slice_get, ap, subst, ◌∙◌}
use Rattle.std.proofs.lemmas.Result.{on_ok_weaker}
use Rattle.biblatex.specs.Catalogs.{IsEntryAs}
use Rattle.biblatex.specs.Entries.{source_view}
use Rattle.biblatex_inherited_fields.specs.Table.{is_among}
use Rattle.interop.specs.Bridge.{Fault}
use Rattle.interop.specs.Views.{fault_view}
use Rattle.cite_requests.proofs.CatalogsWorks.{faults_at}
use Rattle.cite_requests.proofs.bridging.push_made_faults.Goals as goal

pub returns : goal.returns
returns c =
    let o = slice_get c.args.file.now.entries c.args.index in
    let d = source_view c.in_ok-read.read in
    let as_it = subst (λ (ns : List (List ℕ)). IsEntryAs (is_among ns) o d) c.read_as_dates.ensures c.in_ok-read.ensures in
    on_ok_weaker c.push_work_faults.result (λ step rest. step rest ∙ ap (λ (fs : List Fault). map fault_view c.args.faults.now.items ++ fs) (faults_at o d rest as_it)) c.push_work_faults.ensures
