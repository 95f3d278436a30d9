use Rattle.std.proofs.Common.{◌≡◌, take}
use Rattle.laws.specs.Borrowed.{borrowed}
use Rattle.literature.proofs.binding.borrow_each.Given as goal

abbrev pub invariant-loop-entry : goal.invariant-loop-entry
invariant-loop-entry l = borrowed l.all.items ≡ take l.entry-index l.entries
