use Rattle.biblatex_writing.proofs.ContentMembers.{math_written}
use Rattle.biblatex_writing.proofs.content.push_math.Goals as goal

pub returns : goal.returns
returns g c =
    math_written g.T.Target.takes c.args.target.now c.args.is_open c.closing.result.now c.args.math.now c.push_str.new.self c.push_str-2.new.self c.push_str-3.new.self c.push_str-4.new.self
    c.utf8.math c.closing.ensures c.push_str.ensures c.push_str-2.ensures c.push_str-3.ensures c.push_str-4.ensures
