use Rattle.std.proofs.Common.{sym, ap, ◌∙◌}
use Rattle.csl_words.specs.Elements.{first_called}
use Rattle.csl_words.proofs.elements.part_called.Goals as goal

pub returns : goal.returns
returns c = c.first_called.ensures c.children_of.ensures.0 ∙ sym (ap (first_called c.args.name.now) c.children_of.ensures.1)
