use Rattle.std.proofs.Common.{◌≡◌, ◌+◌, ◌≤◌, length}
use Rattle.std.specs.Str.{chars, IsUtf8}
use Rattle.std.specs.Str.Iter.{chars_rest}
use Rattle.biblatex_writing.specs.Rules.{is_math_at}
use Rattle.biblatex_writing.specs.SettledContent.{is_math}
use Rattle.biblatex_writing.proofs.settled_content.is_math.Given as goal

abbrev pub invariant-loop-c : goal.invariant-loop-c
invariant-loop-c l = record {
  same : is_math_at l.read (chars (chars_rest l.c-iterator)) ≡ is_math (chars l.math);
  room : l.read.depth + length (chars_rest l.c-iterator) ≤ length l.math;
  utf8 : IsUtf8 (chars_rest l.c-iterator);
}
