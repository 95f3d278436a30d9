use Rattle.std.proofs.Common.{◌≡◌, ◌++◌}
use Rattle.std.specs.Str.{chars, IsUtf8}
use Rattle.std.specs.Str.Iter.{chars_rest}
use Rattle.biblatex_content.specs.declared.chunk.Kind.TheVariants.{Verbatim}
use Rattle.biblatex_content.specs.Styled.{letters}
use Rattle.biblatex_content.specs.Verbatim.{verbatim_from, verbatim_text}
use Rattle.biblatex_content.specs.Views.{joined}
use Rattle.biblatex_content.proofs.joining.Joining.push_verbatim.Given as goal

abbrev pub invariant-loop-c : goal.invariant-loop-c
invariant-loop-c l = record {
  written : joined l.self ++ letters Verbatim (verbatim_from l.is_escaped (chars (chars_rest l.c-iterator))) ≡ joined l.fn.self ++ letters Verbatim (verbatim_text (chars l.piece));
  utf8 : IsUtf8 (chars_rest l.c-iterator);
}
