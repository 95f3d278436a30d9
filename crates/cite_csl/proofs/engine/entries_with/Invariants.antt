use Rattle.std.proofs.Common.{◌≡◌, ◌++◌, drop, filter}
use Rattle.biblatex.specs.Entries.{Source, sources_view}
use Rattle.interop.specs.Views.{lent_sources_view}
use Rattle.cite_csl.specs.Views.{has_key}
use Rattle.cite_csl.proofs.engine.entries_with.Given as goal

abbrev pub invariant-loop-entry : goal.invariant-loop-entry
invariant-loop-entry l = lent_sources_view l.found.items ++ filter (λ (e : Source). has_key l.keys e.key) (sources_view (drop l.entry-index l.entries)) ≡ filter (λ (e : Source). has_key l.keys e.key) (sources_view l.entries)
