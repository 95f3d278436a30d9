use Rattle.std.proofs.Common.{◌≡◌, drop}
use Rattle.std.specs.List.{list_all}
use Rattle.biblatex.specs.Entries.{sources_view}
use Rattle.cite_uses.specs.Flattened.{is_written_apart}
use Rattle.cite_uses.proofs.flat.are_written_apart.Given as goal

abbrev pub invariant-loop-entry : goal.invariant-loop-entry
invariant-loop-entry l = list_all is_written_apart (sources_view (drop l.entry-index l.entries)) ≡ list_all is_written_apart (sources_view l.entries)
