use Rattle.biblatex_values.specs.Integer.{integer_of}
use Rattle.biblatex_readings_grammar.specs.Integers.{IsInteger}
use Rattle.biblatex_readings_grammar.proofs.Integers.{integer-again, integer-takes, integer-refuses}
use Rattle.biblatex_readings_grammar.proofs.Answers.{answers}
use Rattle.biblatex_readings_grammar.proofs.numbers.integer_is_what_is_related.Goals as goal

pub returns : goal.returns
returns c bs = answers (IsInteger bs) (integer_of bs) (integer-again bs) (integer-takes bs) (integer-refuses bs)
