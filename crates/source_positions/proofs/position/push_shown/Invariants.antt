use Rattle.std.proofs.Common.{◌≡◌, ◌++◌, flat_map, length}
use denote.Text.{Utf8}
use denote.Shadow.{shadow}
use Rattle.std.specs.Str.{chars}
use Rattle.laws.specs.Text.{characters}
use Rattle.source_positions.specs.Position.{shown_in_line}
use Rattle.source_positions.proofs.position.push_shown.Given as goal

abbrev pub invariant-loop-c : goal.invariant-loop-c
invariant-loop-c l = (characters l.line ++ flat_map shown_in_line (chars l.rest) ≡ characters l.fn.line ++ flat_map shown_in_line (chars l.text)) × shadow (Utf8 l.rest)

abbrev pub decreases-loop-c : goal.decreases-loop-c
decreases-loop-c l = length (chars l.rest)
