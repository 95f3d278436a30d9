use Rattle.std.proofs.Common.{◌≡◌, List, ◌++◌}
use Rattle.std.specs.Str.{chars, IsUtf8}
use Rattle.std.specs.Str.Iter.{chars_rest}
use Rattle.biblatex_content.specs.Styled.{Member, letters}
use Rattle.biblatex_writing.proofs.rules.after_text.Given as goal

abbrev pub invariant-loop-c : goal.invariant-loop-c
invariant-loop-c g l = record {
  same : (ms : List Member) → g.R.Rule.holds l.rule (letters l.kind (chars (chars_rest l.c-iterator)) ++ ms) ≡ g.R.Rule.holds l.fn.start (letters l.kind (chars l.text) ++ ms);
  utf8 : IsUtf8 (chars_rest l.c-iterator);
}
