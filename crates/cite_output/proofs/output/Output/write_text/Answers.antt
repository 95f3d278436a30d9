use Rattle.std.proofs.Common.{rules}
use Rattle.rendering_output.proofs.TargetsTaken.{all_taken}
use Rattle.cite_output.proofs.output.Output.write_text.Goals as goal

pub returns : goal.returns
returns g c = all_taken g.W.Write.write_str_gives c.new-target.result c.push_to.new.target c.args.w.now _ c.result.result _ c.new-target.ensures.writer c.result.ensures (λ same. search rules) c.push_to.ensures
