use Rattle.std.proofs.Common.{◌≡◌, ◌++◌}
use Rattle.std.specs.List.{flat_map}
use Rattle.std.specs.Str.{chars, IsUtf8}
use Rattle.std.specs.Str.Iter.{chars_rest}
use Rattle.laws.specs.Text.{characters}
use Rattle.biblatex_content.specs.Writing.{written_as_is}
use Rattle.biblatex_content.proofs.writing.push_as_is.Given as goal

abbrev pub invariant-loop-c : goal.invariant-loop-c
invariant-loop-c l = record {
  same : characters l.text ++ flat_map written_as_is (chars (chars_rest l.c-iterator)) ≡ characters l.fn.text ++ flat_map written_as_is (chars l.more);
  utf8 : IsUtf8 (chars_rest l.c-iterator);
}
