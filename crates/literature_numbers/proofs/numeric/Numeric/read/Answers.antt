use Rattle.std.specs.Str.{chars}
use Rattle.literature_numbers.proofs.NumericsAgain.{read_back}
use Rattle.literature_numbers.proofs.numeric.Numeric.read.Goals as goal

pub returns-clause-back : goal.returns-clause-back
returns-clause-back c = read_back c.read_numeric.result (chars c.args.text.now) c.read_numeric.ensures
