use Rattle.literature_grammar.proofs.Pages.{unique}
use Rattle.literature_grammar.proofs.numbers.pages_are_unique.Goals as goal

pub returns : goal.returns
returns c = unique
