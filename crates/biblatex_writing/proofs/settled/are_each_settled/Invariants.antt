use Rattle.std.proofs.Common.{◌≡◌, drop}
use Rattle.std.specs.List.{list_all}
use Rattle.biblatex_entries.specs.Entries.{sources_view}
use Rattle.biblatex_writing.specs.Settled.{is_settled_entry}
use Rattle.biblatex_writing.proofs.settled.are_each_settled.Given as goal

abbrev pub invariant-loop-entry : goal.invariant-loop-entry
invariant-loop-entry l = list_all is_settled_entry (sources_view (drop l.entry-index l.entries)) ≡ list_all is_settled_entry (sources_view l.entries)
