use Rattle.std.proofs.Common.{ap, ◌∙◌}
use Rattle.driver_rounds.proofs.numbered.has_ibid_after_one.Goals as goal

pub returns : goal.returns
returns g c = ap (λ s. s.citation.ibid_after_one) (c.parts.ensures.style ∙ c.style.ensures)
