use Rattle.std.proofs.Common.{◌≡◌, take}
use Rattle.std.specs.List.{flat_map}
use Rattle.laws.specs.Borrowed.{borrowed}
use Rattle.literature_entries.specs.Views.{parents}
use Rattle.literature_entries.proofs.ancestors.parents_of.Given as goal

abbrev pub invariant-loop-entry : goal.invariant-loop-entry
invariant-loop-entry l = borrowed l.all.items ≡ flat_map parents (borrowed (take l.entry-index l.entries))
