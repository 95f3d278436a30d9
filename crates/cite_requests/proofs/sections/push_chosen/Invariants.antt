use Rattle.std.proofs.Common.{◌≡◌, ◌++◌, filter, map}
use Rattle.literature_entries.specs.EntriesData.{entry_view}
use Rattle.literature.specs.Entries.{entries}
use Rattle.literature.specs.Views.{selector_view}
use Rattle.literature.specs.Holding.{holds_at}
use Rattle.cite_requests.specs.Views.{lent_works_view}
use Rattle.cite_requests.proofs.sections.push_chosen.Given as goal

abbrev pub invariant-loop-entry : goal.invariant-loop-entry
invariant-loop-entry l =
    lent_works_view l.found.items ++ filter (holds_at (selector_view l.selector)) (map entry_view l.entry-iterator)
    ≡ lent_works_view l.initial.found.items ++ filter (holds_at (selector_view l.selector)) (map entry_view (entries l.library))
