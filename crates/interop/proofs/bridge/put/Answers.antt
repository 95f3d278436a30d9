use Rattle.std.proofs.Common.{List, map, refl, subst, sym, ap, ◌∙◌, Result}
use Rattle.std.proofs.lemmas.Result.{on_ok_weaker}
use Rattle.literature.specs.Entries.{entries}
use Rattle.literature_entries.specs.EntriesData.{EntryData, entry_view}
use Rattle.literature_entries.specs.declared.entry.Entry.{Entry}
use Rattle.interop.specs.Bridge.{Fault}
use Rattle.interop.specs.Library.{PutsBy}
use Rattle.interop.specs.Views.{fault_view, library_view}
use Rattle.interop.proofs.LibraryWorks.{put_whole}
use Rattle.interop.proofs.bridge.put.Goals as goal

pub returns-in-Ok : goal.returns-in-Ok
returns-in-Ok c =
    let fs = map fault_view c.args.faults.now.items in
    let before = c.args.library.now in
    let after = c.push.new.self in
    on_ok_weaker c.push.result
    (λ e. subst (λ (r : Result EntryData (List Fault)). PutsBy r (library_view before) fs (library_view after) fs) (sym c.in-Ok.ensures)
    (ap (λ (es : List Entry). map entry_view es) e ∙ put_whole (entries before) c.in-Ok.work, refl))
    c.push.ensures.ok
