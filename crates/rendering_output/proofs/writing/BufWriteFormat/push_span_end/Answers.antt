use Rattle.std.proofs.Common.{refl, codes}
use Rattle.rendering_output.proofs.WritingCalls.{writes_ascii}
use Rattle.rendering_output.proofs.writing.BufWriteFormat.push_span_end.Goals as goal

pub returns-in-Html : goal.returns-in-Html
returns-in-Html g c = rw c.in-Html.is (writes_ascii g.T.TextTarget.takes _ (codes "</span>") _ refl c.push_str.ensures)
