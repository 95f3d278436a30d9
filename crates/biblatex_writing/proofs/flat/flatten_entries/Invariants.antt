use Rattle.std.proofs.Common.{◌≡◌, ◌++◌, map, take, drop, length}
use Rattle.biblatex_entries.specs.Entries.{sources_view}
use Rattle.biblatex_writing.specs.Flat.{flat_entry}
use Rattle.biblatex_writing.proofs.flat.flatten_entries.Given as goal

abbrev pub invariant-loop-index : goal.invariant-loop-index
invariant-loop-index l =
    (sources_view l.entries ≡ map flat_entry (take l.index (sources_view l.fn.entries)) ++ drop l.index (sources_view l.fn.entries)) × (length l.entries ≡ length l.fn.entries)
