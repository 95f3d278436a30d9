use Rattle.std.proofs.Common.{◌≡◌, ◌++◌, map, length}
use Rattle.biblatex_entries.specs.Entries.{sources_view}
use Rattle.biblatex.specs.Indices.{meaning_in}
use Rattle.biblatex_meaning.specs.Listed.{references}
use Rattle.biblatex.specs.Bibliographies.{listed_view}
use Rattle.biblatex.proofs.bibliography.Bibliography.references.Given as goal

abbrev pub invariant-loop-entry : goal.invariant-loop-entry
invariant-loop-entry l = map (λ r. r.items) l.references.items ++ references (record { entries = sources_view l.rest; index = meaning_in l.self.names }) ≡ references (listed_view l.self)

abbrev pub decreases-loop-entry : goal.decreases-loop-entry
decreases-loop-entry l = length l.rest
