use Rattle.std.proofs.Common.{◌≡◌, ◌++◌, flat_map, take}
use denote.Text.{Utf8}
use denote.Shadow.{shadow}
use Rattle.std.specs.Str.{chars}
use Rattle.laws.specs.Text.{characters}
use Rattle.source_positions.specs.Position.{shown_in_line}
use Rattle.fault_lines.proofs.window.push_first.Given as goal

abbrev pub invariant-loop-left : goal.invariant-loop-left
invariant-loop-left l = (characters l.line ++ flat_map shown_in_line (take l.left (chars l.rest)) ≡ characters l.fn.line ++ flat_map shown_in_line (take l.count (chars l.text))) × shadow (Utf8 l.rest)

abbrev pub decreases-loop-left : goal.decreases-loop-left
decreases-loop-left l = l.left
