use Rattle.std.proofs.Common.{◌≡◌, drop}
use Rattle.biblatex_entries.specs.Entries.{sources_view}
use Rattle.biblatex.specs.Indices.{names_in, meaning_in}
use Rattle.biblatex.specs.Naming.{are_apart}
use Rattle.biblatex.proofs.naming.are_apart.Given as goal

abbrev pub invariant-loop-number : goal.invariant-loop-number
invariant-loop-number l =
    let meaning = meaning_in (names_in l.names) in
    let all = sources_view l.entries in
    are_apart meaning all l.number (sources_view (drop l.number l.entries)) ≡ are_apart meaning all 0 all
