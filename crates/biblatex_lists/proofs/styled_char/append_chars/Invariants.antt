use Rattle.std.proofs.Common.{◌≡◌, ◌++◌}
use Rattle.std.specs.Str.{chars, IsUtf8}
use Rattle.std.specs.Str.Iter.{chars_rest}
use Rattle.biblatex_lists.specs.StyledChars.{of_style}
use Rattle.biblatex_lists.proofs.styled_char.append_chars.Given as goal

abbrev pub invariant-loop-c : goal.invariant-loop-c
invariant-loop-c l = record {
  same : l.list.items ++ of_style l.is_normal (chars (chars_rest l.c-iterator)) ≡ l.fn.list.items ++ of_style l.is_normal (chars l.text);
  utf8 : IsUtf8 (chars_rest l.c-iterator);
}
