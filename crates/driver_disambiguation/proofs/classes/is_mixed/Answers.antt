use Rattle.std.proofs.Common.{sym, ◌∙◌}
use Rattle.driver_disambiguation.proofs.Classing.{mixed_others}
use Rattle.driver_disambiguation.proofs.classes.is_mixed.Goals as goal

pub returns-in-Some : goal.returns-in-Some
returns-in-Some c = c.is_of_another.ensures ∙ sym (mixed_others c.args.part.now c.in-Some.first.now c.in-Some.others.now c.in-Some.ensures.cases.0)
