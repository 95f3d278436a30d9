use Rattle.std.proofs.Common.{◌≡◌, ◌++◌, List}
use Rattle.std.specs.Str.{chars, IsUtf8}
use Rattle.std.specs.Str.Iter.{chars_rest}
use Rattle.biblatex_content.specs.Styled.{Member, letters}
use Rattle.biblatex_content.specs.Writing.{written_after}
use Rattle.biblatex_content.proofs.writing.push_run.Given as goal

abbrev pub invariant-loop-c : goal.invariant-loop-c
invariant-loop-c l = record {
  same : (ms : List Member) → written_after l.text l.is_open (letters l.kind (chars (chars_rest l.c-iterator)) ++ ms) ≡ written_after l.fn.text l.fn.is_open (letters l.kind (chars l.run) ++ ms);
  utf8 : IsUtf8 (chars_rest l.c-iterator);
}
