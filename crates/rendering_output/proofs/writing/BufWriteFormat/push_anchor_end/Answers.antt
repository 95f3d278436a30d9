use Rattle.std.proofs.Common.{refl, codes}
use Rattle.rendering_output.proofs.WritingCalls.{writes_ascii}
use Rattle.rendering_output.proofs.writing.BufWriteFormat.push_anchor_end.Goals as goal

pub returns-in-Html : goal.returns-in-Html
returns-in-Html g c = rw c.in-Html.is (writes_ascii g.T.TextTarget.takes _ (codes "</a>") _ refl c.push_str.ensures)
