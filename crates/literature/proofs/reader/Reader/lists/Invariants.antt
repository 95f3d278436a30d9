use Rattle.std.proofs.Common.{◌≡◌, map, length}
use Rattle.literature.specs.Reading.{lists_at}
use Rattle.literature.specs.Views.{left}
use Rattle.laws.specs.Text.{characters}
use Rattle.literature.proofs.ReadingLevels.{lists_onto}
use Rattle.literature.proofs.reader.Reader.lists.Given as goal

abbrev pub invariant-loop-alloc : goal.invariant-loop-alloc
invariant-loop-alloc l = lists_onto (map characters l.names.items) (left l.self) ≡ lists_at (left l.fn.self)

abbrev pub decreases-loop-alloc : goal.decreases-loop-alloc
decreases-loop-alloc l = length (left l.self)
