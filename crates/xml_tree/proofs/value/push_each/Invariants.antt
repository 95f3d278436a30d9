use Rattle.std.proofs.Common.{◌++◌, length, map}
use denote.Text.{Utf8}
use denote.Shadow.{shadow}
use Rattle.std.specs.Str.{chars}
use Rattle.laws.specs.Text.{characters}
use Rattle.xml_tree.specs.Values.{lines_of, shown}
use Rattle.xml_tree.proofs.Lines.{Appends}
use Rattle.xml_tree.proofs.value.push_each.Given as goal

abbrev pub invariant-loop-c : goal.invariant-loop-c
invariant-loop-c l = Appends l.in_value (characters l.text) l.returned (chars l.rest) (characters l.fn.text ++ map (shown l.in_value) (lines_of (chars l.more))) × shadow (Utf8 l.rest)

abbrev pub decreases-loop-c : goal.decreases-loop-c
decreases-loop-c l = length (chars l.rest)
