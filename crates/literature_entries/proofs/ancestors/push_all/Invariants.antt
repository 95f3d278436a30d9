use Rattle.std.proofs.Common.{◌≡◌, ◌++◌, take}
use Rattle.laws.specs.Borrowed.{borrowed}
use Rattle.literature_entries.proofs.ancestors.push_all.Given as goal

abbrev pub invariant-loop-entry : goal.invariant-loop-entry
invariant-loop-entry l = borrowed l.all.items ≡ borrowed l.initial.all.items ++ take l.entry-index l.entries
