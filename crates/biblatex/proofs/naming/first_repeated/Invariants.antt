use Rattle.std.proofs.Common.{◌≡◌, drop}
use Rattle.biblatex_entries.specs.Entries.{sources_view}
use Rattle.biblatex.specs.Naming as specs
use Rattle.biblatex.specs.Naming.{names_from}
use Rattle.biblatex.proofs.naming.first_repeated.Given as goal

abbrev pub invariant-loop-number : goal.invariant-loop-number
invariant-loop-number l =
    let all = names_from 0 (sources_view l.entries) in
    specs.first_repeated all l.number (sources_view (drop l.number l.entries)) ≡ specs.first_repeated all 0 (sources_view l.entries)
