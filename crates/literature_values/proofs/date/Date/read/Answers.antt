use Rattle.std.proofs.Common.{ap, ◌∙◌}
use Rattle.literature_values.specs.DateRanges.{range_of}
use Rattle.literature_values.proofs.DateRangesAgain.{date_again}
use Rattle.literature_values.proofs.date.Date.read.Goals as goal

pub returns-clause-back : goal.returns-clause-back
returns-clause-back c = λ d exists is. c.read_range.ensures ∙ ap range_of is ∙ date_again d exists
