use Rattle.std.proofs.Common.{◌≡◌, map, length}
use Rattle.literature.specs.Reading.{names_at}
use Rattle.literature.specs.Views.{left}
use Rattle.laws.specs.Text.{characters}
use Rattle.literature.proofs.ReadingRepeats.{names_onto}
use Rattle.literature.proofs.reader.Reader.names.Given as goal

abbrev pub invariant-loop-alloc : goal.invariant-loop-alloc
invariant-loop-alloc l = names_onto (map characters l.names.items) (left l.self) ≡ names_at (left l.fn.self)

abbrev pub decreases-loop-alloc : goal.decreases-loop-alloc
decreases-loop-alloc l = length (left l.self)
