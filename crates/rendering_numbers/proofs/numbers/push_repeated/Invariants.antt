use Rattle.std.proofs.Common.{◌≡◌, ◌++◌, replicate}
use Rattle.laws.specs.Text.{characters}
use Rattle.rendering_numbers.proofs.numbers.push_repeated.Given as goal

abbrev pub invariant-loop-n : goal.invariant-loop-n
invariant-loop-n l = characters l.out ≡ characters l.initial.out ++ replicate l._n l.c
