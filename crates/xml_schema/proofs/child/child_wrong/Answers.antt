use Rattle.std.proofs.Common.{sym, ap, ◌∙◌}
use Rattle.xml_tree.specs.Trees.{content_of}
use Rattle.xml_tree.specs.Views.{children_of}
use Rattle.xml_schema.specs.Faults.{count_called, times_wrong}
use Rattle.xml_schema.specs.declared.schema.Times.{Times}
use Rattle.xml_schema.proofs.child.child_wrong.Goals as goal

pub returns-in-Any : goal.returns-in-Any
returns-in-Any c =
    λ t. sym (ap (λ (times : Times). times_wrong times c.args.rule.now.0.now (count_called c.args.schema.now.space.now c.args.rule.now.0.now (content_of (children_of c.args.children.now) t))) c.in-Any.is)

pub returns : goal.returns
returns c = λ t. c.times_wrong.ensures ∙ ap (times_wrong c.args.rule.now.2 c.args.rule.now.0.now) (c.count_called.ensures t)
