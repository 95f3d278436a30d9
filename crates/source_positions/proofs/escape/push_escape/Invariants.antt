use Rattle.std.proofs.Common.{◌≡◌, ◌++◌}
use Rattle.std.specs.Char.Escape.{escape_unicode}
use Rattle.std.specs.Char.Iter.{escape_rest}
use Rattle.laws.specs.Text.{characters}
use Rattle.source_positions.proofs.escape.push_escape.Given as goal

abbrev pub invariant-loop-mark : goal.invariant-loop-mark
invariant-loop-mark l = characters l.out ++ escape_rest l.mark-iterator ≡ characters l.fn.out ++ escape_unicode l.fn.c
