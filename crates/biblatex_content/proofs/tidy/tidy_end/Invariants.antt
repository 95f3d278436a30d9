use Rattle.std.specs.Str.Iter.{char_indices_rest, char_indices_offset}
use Rattle.biblatex_content.proofs.TidyPrefixes.{Passed}
use Rattle.biblatex_content.proofs.tidy.tidy_end.Given as goal

abbrev pub invariant-loop-i : goal.invariant-loop-i
invariant-loop-i l = Passed l.is_after_space l.text (char_indices_rest l.i-iterator) l.end (char_indices_offset l.i-iterator)
