use Rattle.driver_bibliography.proofs.RepeatsSteps.{same_as_many, not_as_many}
use Rattle.driver_bibliography.proofs.repeats.are_same.Goals as goal

pub returns-then-names-last : goal.returns-then-names-last
returns-then-names-last c = same_as_many c.args.alone c.args.names.now c.args.last.now c.common_len.result c.if-names-last.true c.common_len.ensures

pub returns-else-names-last : goal.returns-else-names-last
returns-else-names-last c = not_as_many c.args.alone c.args.names.now c.args.last.now c.if-names-last.false
