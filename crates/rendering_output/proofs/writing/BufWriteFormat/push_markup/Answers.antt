use Rattle.rendering_output.proofs.WritingCalls.{writes_words}
use Rattle.rendering_output.proofs.writing.BufWriteFormat.push_markup.Goals as goal

pub returns-in-Plain : goal.returns-in-Plain
returns-in-Plain g c = rw c.in-Plain.is (writes_words g.T.TextTarget.takes _ c.args.text.now _ c.utf8.text c.push_str.ensures)
