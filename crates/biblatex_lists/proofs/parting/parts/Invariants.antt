use Rattle.std.proofs.Common.{◌≡◌, ◌++◌, length}
use Rattle.laws.specs.Borrowed.{borrowed}
use Rattle.biblatex_lists.specs.Parts.{parts}
use Rattle.biblatex_lists.proofs.parting.parts.Given as goal

abbrev pub invariant-loop-part : goal.invariant-loop-part
invariant-loop-part l = borrowed l.parts.items ++ parts l.rest ≡ parts l.text

abbrev pub decreases-loop-part : goal.decreases-loop-part
decreases-loop-part l = length l.rest
