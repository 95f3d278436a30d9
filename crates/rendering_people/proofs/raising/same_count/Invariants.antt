use Rattle.std.proofs.Common.{◌≡◌, drop}
use Rattle.std.specs.Prelude.{find}
use Rattle.rendering_people.specs.Raised.{is_same_count}
use Rattle.rendering_people.proofs.raising.same_count.Given as goal

abbrev pub invariant-loop-other : goal.invariant-loop-other
invariant-loop-other l = find (is_same_count l.count) (drop l.other-index l.others) ≡ find (is_same_count l.count) l.others
