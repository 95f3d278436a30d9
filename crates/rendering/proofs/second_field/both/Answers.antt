use Rattle.rendering.proofs.FieldJoined.{before_others}
use Rattle.rendering.proofs.second_field.both.Goals as goal

pub returns : goal.returns
returns c = before_others c.args.others.0.items c.insert.new.self.items c.args.field c.in_ok-insert.ensures.items
