use Rattle.std.proofs.Common.{refl, codes}
use Rattle.rendering_output.proofs.WritingCalls.{writes_ascii}
use Rattle.rendering_output.proofs.writing.BufWriteFormat.push_end.Goals as goal

pub returns-in-Html-Some : goal.returns-in-Html-Some
returns-in-Html-Some g c = rw (c.in-Html-Some.is-0, c.in-Html-Some.is-1) (writes_ascii g.T.TextTarget.takes _ (codes "</div>") _ refl c.push_str.ensures)
