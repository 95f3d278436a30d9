use Rattle.std.proofs.Common.{◌≡◌, map, false}
use Rattle.std.proofs.lemmas.Result.{on_ok_weaker}
use Rattle.biblatex_entries.specs.Entries.{source_view}
use Rattle.biblatex_entries.specs.TypeNames.{written_type}
use Rattle.interop.specs.Library.{is_xdata}
use Rattle.interop.specs.Views.{fault_view}
use Rattle.interop.proofs.LibraryWorks.{faults_step}
use Rattle.interop.proofs.date_faults.push_work_faults.Goals as goal

pub returns : goal.returns
returns c =
    let e = source_view c.args.read.now in
    let no_xdata : is_xdata (written_type e.entry_type) ≡ false = (cc) in
    on_ok_weaker c.push_date_faults.result
    (λ h rest. faults_step e rest (map fault_view c.args.faults.now.items) (map fault_view c.push_date_faults.new.faults.items) no_xdata h)
    c.push_date_faults.ensures
