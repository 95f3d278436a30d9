use Rattle.std.proofs.Common.{refl, [], ◌∷◌}
use Rattle.laws.specs.Characters.{line_feed}
use Rattle.rendering_output.proofs.WritingCalls.{writes_ascii}
use Rattle.rendering_output.proofs.writing.push_break.Goals as goal

pub returns-in-Block : goal.returns-in-Block
returns-in-Block g c = rw c.in-Block.is (writes_ascii g.T.TextTarget.takes _ (line_feed ∷ []) _ refl c.push_str.ensures)
