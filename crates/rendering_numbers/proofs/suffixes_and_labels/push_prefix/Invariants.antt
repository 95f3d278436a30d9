use Rattle.std.proofs.Common.{◌≡◌, ◌++◌}
use Rattle.laws.specs.Text.{characters}
use Rattle.rendering_numbers.proofs.suffixes_and_labels.push_prefix.Given as goal

abbrev pub invariant-loop-c : goal.invariant-loop-c
invariant-loop-c l = characters l.out ≡ characters l.initial.out ++ l.yielded
