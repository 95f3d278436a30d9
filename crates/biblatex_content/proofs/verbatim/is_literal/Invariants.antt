use Rattle.std.proofs.Common.{◌≡◌}
use Rattle.std.specs.Str.{chars, IsUtf8}
use Rattle.std.specs.Str.Iter.{chars_rest}
use Rattle.biblatex_content.specs.Verbatim.{verbatim_text}
use Rattle.biblatex_content.proofs.verbatim.is_literal.Given as goal

abbrev pub invariant-loop-c : goal.invariant-loop-c
invariant-loop-c l = record {
  same : verbatim_text (chars (chars_rest l.c-iterator)) ≡ chars (chars_rest l.c-iterator) → verbatim_text (chars l.piece) ≡ chars l.piece;
  utf8 : IsUtf8 (chars_rest l.c-iterator);
}
