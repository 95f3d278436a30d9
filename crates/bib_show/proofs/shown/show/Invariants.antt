use Rattle.std.proofs.Common.{◌≡◌, ◌++◌, string_bytes, length}
use Rattle.biblatex.specs.Entries.{sources_view}
use Rattle.bib_show.specs.Shown.{shown, AreAllInOrder}
use Rattle.bib_show.proofs.shown.show.Given as goal

abbrev pub invariant-loop-entry : goal.invariant-loop-entry
invariant-loop-entry l = (string_bytes l.out ++ shown (sources_view l.rest) ≡ shown l.bibliography.entries) × (AreAllInOrder (sources_view l.rest) → AreAllInOrder l.bibliography.entries)

abbrev pub decreases-loop-entry : goal.decreases-loop-entry
decreases-loop-entry l = length l.rest
