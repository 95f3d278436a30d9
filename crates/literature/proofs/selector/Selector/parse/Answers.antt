use Rattle.std.specs.Str.{chars}
use Rattle.literature.proofs.GrammarOutcome.{found_is, only_this}
use Rattle.literature.proofs.selector.Selector.parse.Goals as goal

pub returns-clause-found : goal.returns-clause-found
returns-clause-found c = found_is c.rooted.result (chars c.args.text.now) c.rooted.ensures

pub returns-clause-only : goal.returns-clause-only
returns-clause-only c = λ x is. only_this c.rooted.result (chars c.args.text.now) x c.rooted.ensures is
