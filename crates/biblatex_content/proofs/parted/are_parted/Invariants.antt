use Rattle.std.proofs.Common.{◌≡◌, length}
use Rattle.biblatex_content.specs.Parted.{are_parted}
use Rattle.biblatex_content.proofs.parted.are_parted.Given as goal

abbrev pub invariant-loop-chunk : goal.invariant-loop-chunk
invariant-loop-chunk l = are_parted l.rest ≡ are_parted l.chunks

abbrev pub decreases-loop-chunk : goal.decreases-loop-chunk
decreases-loop-chunk l = length l.rest
