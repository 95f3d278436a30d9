use Rattle.std.proofs.Common.{◌≡◌, ◌++◌, take}
use Rattle.laws.specs.Text.{characters}
use Rattle.rendering_ranges.proofs.digits.push_digits.Given as goal

abbrev pub invariant-loop-digit : goal.invariant-loop-digit
invariant-loop-digit l = characters l.out ≡ characters l.initial.out ++ take l.digit-index l.digits
