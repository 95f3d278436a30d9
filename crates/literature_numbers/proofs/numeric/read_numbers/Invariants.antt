use Rattle.std.proofs.Common.{◌≡◌, length}
use Rattle.literature_numbers.specs.Numerics.{numbers_at}
use Rattle.texts.specs.Views.{left}
use Rattle.literature_numbers.proofs.NumbersSteps.{numbers_onto}
use Rattle.literature_numbers.proofs.numeric.read_numbers.Given as goal

abbrev pub invariant-loop-numbers : goal.invariant-loop-numbers
invariant-loop-numbers l = numbers_onto l.numbers.items l.number (left l.reader) ≡ numbers_at (left l.fn.reader)

abbrev pub decreases-loop-numbers : goal.decreases-loop-numbers
decreases-loop-numbers l = length (left l.reader)
