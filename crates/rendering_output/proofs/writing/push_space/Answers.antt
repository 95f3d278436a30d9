use Rattle.std.proofs.Common.{refl, codes}
use Rattle.rendering_output.proofs.WritingCalls.{writes_ascii}
use Rattle.rendering_output.proofs.writing.push_space.Goals as goal

pub returns-then-is_after : goal.returns-then-is_after
returns-then-is_after g c = rw c.if-is_after.true (writes_ascii g.T.TextTarget.takes _ (codes " ") _ refl c.push_str.ensures)
