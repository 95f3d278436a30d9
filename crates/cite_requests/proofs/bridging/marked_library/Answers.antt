use Rattle.std.proofs.Common.{List, map, Result, sym, ap, subst, ◌∙◌, append-nil}
use Rattle.laws.specs.Results.{Gives}
use Rattle.literature_entries.specs.EntriesData.{EntryData, entry_view}
use Rattle.interop.specs.Bridge.{Fault, unless_faulty}
use Rattle.interop.specs.Views.{fault_view, library_view, refusal_of}
use Rattle.cite_requests.specs.Cited.{come_to, marked_entries}
use Rattle.cite_requests.proofs.bridging.marked_library.Goals as goal

pub returns : goal.returns
returns c =
    let library = c.put_marked.new.library in
    let faults = map fault_view c.put_marked.new.faults.items in
    let es = marked_entries c.args.marks.now c.args.file.now.entries in
    subst (λ (r : Result (List EntryData) (List Fault)). Gives refusal_of library_view c.finished.result r)
    (sym (ap (λ (fs : List Fault). unless_faulty fs (library_view library)) (append-nil faults))
    ∙ (c.in_ok-put_marked.ensures ∙ (λ i. come_to (map fault_view (c.new-faults.ensures.items i)) (map entry_view (c.in_ok-library.ensures i)) es))) c.finished.ensures
