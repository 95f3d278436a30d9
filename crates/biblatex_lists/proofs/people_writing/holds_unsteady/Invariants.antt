use Rattle.std.proofs.Common.{◌≡◌, drop}
use Rattle.biblatex_lists.specs.Writing.{holds}
use Rattle.biblatex_lists.specs.PeopleWriting.{is_unsteady}
use Rattle.biblatex_lists.proofs.people_writing.holds_unsteady.Given as goal

abbrev pub invariant-loop-i : goal.invariant-loop-i
invariant-loop-i l = holds is_unsteady l.text ≡ holds is_unsteady (drop l.i l.text)
