use Rattle.std.specs.Str.Iter.{char_indices_rest, char_indices_offset}
use Rattle.xml_text.proofs.Endings.{Reaches}
use Rattle.xml_text.proofs.ending.split_ending.Given as goal

abbrev pub invariant-loop-i : goal.invariant-loop-i
invariant-loop-i l = Reaches l.ending l.text (char_indices_rest l.i-iterator) (char_indices_offset l.i-iterator)
