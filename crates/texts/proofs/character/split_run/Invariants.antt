use Rattle.std.specs.Str.Iter.{char_indices_rest, char_indices_offset}
use Rattle.laws.proofs.Cut.{Runs}
use Rattle.texts.proofs.character.split_run.Given as goal

abbrev pub invariant-loop-i : goal.invariant-loop-i
invariant-loop-i g l = Runs (g.C.CharacterClass.passes l.class) l.text (char_indices_rest l.i-iterator) (char_indices_offset l.i-iterator)
