use Rattle.std.proofs.Common.{sym, ap, ◌∙◌}
use Rattle.csl_nodes.specs.Names.{first_part}
use Rattle.csl_nodes.proofs.names.part_element.Goals as goal

pub returns : goal.returns
returns c = c.first_part.ensures c.children_of.ensures.0 ∙ sym (ap (first_part c.args.word.now) c.children_of.ensures.1)
