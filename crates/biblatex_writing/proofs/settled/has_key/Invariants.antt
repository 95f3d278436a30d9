use Rattle.std.proofs.Common.{◌≡◌, map, drop}
use Rattle.std.specs.List.{list_any}
use Rattle.std.specs.Str.{bytes_eq}
use Rattle.biblatex_entries.specs.Entries.{Source, sources_view}
use Rattle.biblatex_writing.proofs.settled.has_key.Given as goal

abbrev pub invariant-loop-entry : goal.invariant-loop-entry
invariant-loop-entry l =
    list_any (bytes_eq l.key) (map (λ (e : Source). e.key) (sources_view (drop l.entry-index l.entries))) ≡ list_any (bytes_eq l.key) (map (λ (e : Source). e.key) (sources_view l.entries))
