use Rattle.std.proofs.Common.{ap, ◌∙◌}
use Rattle.driver_rounds.specs.FirstPrints.{naming_in}
use Rattle.driver_rounds.proofs.first_names.naming_of.Goals as goal

pub returns : goal.returns
returns g c = λ rs. (λ j. (c.rule_in.ensures j, c.kept_in.ensures j)) ∙ ap (λ s. naming_in s.citation) (c.parts.ensures.style ∙ c.style.ensures)
