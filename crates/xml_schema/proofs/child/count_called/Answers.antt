use Rattle.std.proofs.Common.{sym, ◌∙◌}
use Rattle.xml_schema.proofs.Contents.{called_counted}
use Rattle.xml_schema.proofs.child.count_called.Goals as goal

pub returns : goal.returns
returns c = λ t. c.count_pairs.ensures ∙ sym (called_counted c.args.of_schema.now c.args.name.now c.args.children.now t)
