use Rattle.std.proofs.Common.{◌≡◌, drop}
use Rattle.laws.specs.Borrowed.{borrowed}
use Rattle.biblatex_lists.specs.Reading.{with_pairs, nobody}
use Rattle.biblatex_lists.specs.Views.{named_view}
use Rattle.biblatex_lists.proofs.pairs.person_of_pairs.Given as goal

abbrev pub invariant-loop-part : goal.invariant-loop-part
invariant-loop-part l = with_pairs (borrowed (drop l.part-index l.parts)) (named_view l.person) ≡ with_pairs (borrowed l.parts) nobody
