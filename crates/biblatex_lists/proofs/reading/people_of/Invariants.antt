use Rattle.std.proofs.Common.{take}
use Rattle.std.specs.List.{filter}
use Rattle.laws.specs.Borrowed.{borrowed}
use Rattle.biblatex_lists.specs.Reading.{is_someone}
use Rattle.biblatex_lists.specs.Views.{AreFoundIn}
use Rattle.biblatex_lists.proofs.reading.people_of.Given as goal

abbrev pub invariant-loop-part : goal.invariant-loop-part
invariant-loop-part l = AreFoundIn l.found (filter is_someone (borrowed (take l.part-index l.parts)))
