use Rattle.std.proofs.Common.{◌≡◌, drop}
use Rattle.biblatex.specs.Entries.{sources_view}
use Rattle.bib_show.specs.Unsettled.{first_unsettled}
use Rattle.bib_show.proofs.unsettled.first_unsettled.Given as goal

abbrev pub invariant-loop-index : goal.invariant-loop-index
invariant-loop-index l = first_unsettled l.index (sources_view (drop l.index l.entries)) ≡ first_unsettled 0 (sources_view l.entries)
