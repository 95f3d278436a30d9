use Rattle.std.proofs.Common.{subst}
use Rattle.biblatex.specs.Fronts.{IsFront}
use Rattle.biblatex.proofs.name.Sought.new.Goals as goal

pub invariant_of-result : goal.invariant_of-result
invariant_of-result c = record { begins = subst (IsFront c.front_of-front.result) c.as_bytes.ensures.value (c.front_of-front.ensures.number, c.front_of-front.ensures.bytes) }
