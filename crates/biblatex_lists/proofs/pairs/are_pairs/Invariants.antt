use Rattle.std.proofs.Common.{◌≡◌, drop}
use Rattle.std.specs.List.{list_all}
use Rattle.laws.specs.Borrowed.{borrowed}
use Rattle.biblatex_lists.specs.Reading.{is_some, pair}
use Rattle.biblatex_lists.proofs.pairs.are_pairs.Given as goal

abbrev pub invariant-loop-i : goal.invariant-loop-i
invariant-loop-i l = list_all (λ p. is_some (pair p)) (borrowed l.parts) ≡ list_all (λ p. is_some (pair p)) (borrowed (drop l.i l.parts))
