use Rattle.rendering_output.proofs.WritingCalls.{writes_text}
use Rattle.cite_output.proofs.output.push_text.Goals as goal

pub returns : goal.returns
returns g c = writes_text g.T.TextTarget.takes c.args.target.now c.args.text.now c.push_str.new.self c.utf8.text c.push_str.ensures
