use Rattle.std.proofs.Common.{◌≡◌, None}
use Rattle.biblatex.specs.Indices.{names_in, meaning_in, AreInOrder}
use Rattle.biblatex.specs.Naming.{bound_each}
use Rattle.biblatex.proofs.naming.last_of_each.Given as goal

abbrev pub invariant-loop-named : goal.invariant-loop-named
invariant-loop-named l = AreInOrder l.last.items × (meaning_in (names_in l.last.items) ≡ bound_each (names_in l.yielded) (λ name. None))
