use Rattle.std.proofs.Common.{◌++◌, List, map, sym, subst, ◌∙◌, Result}
use Rattle.literature_entries.specs.EntriesData.{EntryData, entry_view}
use Rattle.interop.specs.Bridge.{Fault, unless_faulty}
use Rattle.interop.specs.Library.{all_faults, all_works, put_after}
use Rattle.interop.specs.Views.{fault_view, library_view, refusal_of}
use Rattle.laws.specs.Results.{Gives}
use Rattle.interop.proofs.LibraryWorks.{alike_library}
use Rattle.interop.proofs.bridge.from_biblatex.Goals as goal

pub returns-clause-alike : goal.returns-clause-alike
returns-clause-alike c es h =
    subst (λ (w : Result (List EntryData) (List Fault)). Gives refusal_of library_view c.finished.result w)
    (c.in_ok-put_all.ensures
    ∙ ((λ i. unless_faulty (map fault_view (c.new-faults.ensures.items i) ++ all_faults (c.entries.ensures i)) (put_after (map entry_view (c.in_ok-library.ensures i)) (all_works (c.entries.ensures i))))
    ∙ sym (alike_library es c.args.bibliography.now.entries h)))
    c.finished.ensures
