use Rattle.literature_grammar.proofs.NumbersAgain.{unique}
use Rattle.literature_grammar.proofs.numbers.numerals_are_unique.Goals as goal

pub returns : goal.returns
returns c = unique
