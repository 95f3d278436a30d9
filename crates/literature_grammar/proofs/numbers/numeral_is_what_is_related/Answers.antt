use Rattle.literature_numbers.specs.Numerics.{numeral_of}
use Rattle.literature_grammar.specs.Numbers.{IsNumeral}
use Rattle.literature_grammar.proofs.NumbersAgain.{numeral-again}
use Rattle.literature_grammar.proofs.NumbersTakes.{numeral-takes}
use Rattle.literature_grammar.proofs.Answers.{answers}
use Rattle.literature_grammar.proofs.numbers.numeral_is_what_is_related.Goals as goal

pub returns : goal.returns
returns c cs = answers (IsNumeral cs) (numeral_of cs) (numeral-again cs) (numeral-takes cs)
