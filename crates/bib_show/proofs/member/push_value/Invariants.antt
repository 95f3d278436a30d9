use Rattle.std.proofs.Common.{◌≡◌, ◌++◌, false, string_bytes, length}
use Rattle.biblatex.specs.Contents.{styled}
use Rattle.bib_show.specs.Shown.{shown_from}
use Rattle.bib_show.proofs.member.push_value.Given as goal

abbrev pub invariant-loop-chunk : goal.invariant-loop-chunk
invariant-loop-chunk l = string_bytes l.out ++ shown_from l.is_open (styled l.rest) ≡ string_bytes l.fn.out ++ shown_from false (styled l.value)

abbrev pub decreases-loop-chunk : goal.decreases-loop-chunk
decreases-loop-chunk l = length l.rest
