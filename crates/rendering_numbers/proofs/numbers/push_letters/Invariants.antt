use Rattle.std.proofs.Common.{◌≡◌, ◌++◌, take}
use Rattle.laws.specs.Text.{characters}
use Rattle.rendering_numbers.proofs.numbers.push_letters.Given as goal

abbrev pub invariant-loop-letter : goal.invariant-loop-letter
invariant-loop-letter l = characters l.out ≡ characters l.initial.out ++ take l.letter-index l.letters
