use Rattle.literature_grammar.proofs.Texts.{unique}
use Rattle.literature_grammar.proofs.selectors.trees_are_unique.Goals as goal

pub returns : goal.returns
returns c = unique
