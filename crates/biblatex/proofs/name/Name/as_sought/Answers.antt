use Rattle.std.proofs.Common.{sym, subst}
use Rattle.biblatex.specs.Fronts.{IsFront}
use Rattle.biblatex.proofs.name.Name.as_sought.Goals as goal

pub invariant_of-result : goal.invariant_of-result
invariant_of-result c = record { begins = subst (IsFront c.args.self.now.front) (sym c.as_str.ensures.value) c.args.self.now.begins }
