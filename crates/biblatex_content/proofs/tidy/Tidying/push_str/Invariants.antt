use Rattle.std.proofs.Common.{◌≡◌, ◌++◌, List, length}
use Rattle.std.specs.Str.{chars, IsUtf8}
use Rattle.biblatex_text.specs.Raw.{At}
use Rattle.biblatex_content.specs.Styled.{Member, letters}
use Rattle.biblatex_content.specs.Parted.{IsReady}
use Rattle.biblatex_content.specs.Spans.{all_at, spans_to_come}
use Rattle.biblatex_content.specs.Tidy.{to_come}
use Rattle.biblatex_content.proofs.tidy.Tidying.push_str.Given as goal

abbrev pub invariant-loop-rest : goal.invariant-loop-rest
invariant-loop-rest l = record {
  same : (ms : List Member) → to_come l.self (letters l.kind (chars l.rest) ++ ms) ≡ to_come l.fn.self (letters l.kind (chars l.text) ++ ms);
  spans : (ms : List (At Member)) → spans_to_come l.self (all_at l.span.start l.span.end (letters l.kind (chars l.rest)) ++ ms) ≡ spans_to_come l.fn.self (all_at l.span.start l.span.end (letters l.kind (chars l.text)) ++ ms);
  ready : IsReady l.fn.self.contents → IsReady l.self.contents;
  utf8 : IsUtf8 l.rest;
}

abbrev pub decreases-loop-rest : goal.decreases-loop-rest
decreases-loop-rest l = length (chars l.rest)
