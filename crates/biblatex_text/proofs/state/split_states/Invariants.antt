use Rattle.std.specs.Str.Iter.{char_indices_rest, char_indices_offset}
use Rattle.biblatex_text.proofs.RunCut.{Runs}
use Rattle.biblatex_text.proofs.state.split_states.Given as goal

abbrev pub invariant-loop-i : goal.invariant-loop-i
invariant-loop-i g l = Runs (g.S.RunState.run l.fn.start) (g.S.RunState.run l.state) l.text (char_indices_rest l.i-iterator) (char_indices_offset l.i-iterator)
