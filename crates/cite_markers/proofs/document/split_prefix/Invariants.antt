use Rattle.std.specs.Str.Iter.{char_indices_rest, char_indices_offset}
use Rattle.cite_markers.proofs.Prefixes.{Prefixes}
use Rattle.cite_markers.proofs.document.split_prefix.Given as goal

abbrev pub invariant-loop-i : goal.invariant-loop-i
invariant-loop-i l = Prefixes l.text (char_indices_rest l.i-iterator) (char_indices_offset l.i-iterator)
