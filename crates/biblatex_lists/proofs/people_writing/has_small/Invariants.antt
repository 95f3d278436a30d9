use Rattle.std.proofs.Common.{◌≡◌, drop}
use Rattle.std.specs.List.{list_any}
use Rattle.laws.specs.Borrowed.{borrowed}
use Rattle.biblatex_lists.specs.Words.{is_small}
use Rattle.biblatex_lists.proofs.people_writing.has_small.Given as goal

abbrev pub invariant-loop-i : goal.invariant-loop-i
invariant-loop-i l = list_any is_small (borrowed l.words) ≡ list_any is_small (borrowed (drop l.i l.words))
