use Rattle.std.proofs.Common.{sym, ap, ◌∙◌}
use Rattle.driver_rounds.proofs.RoundsNames.{first_adds, none_adds}
use Rattle.driver_rounds.proofs.rounds.adds_names.Goals as goal

pub returns-in-Some : goal.returns-in-Some
returns-in-Some g c = ap (λ s. s.citation.add_names) (c.parts.ensures.style ∙ c.style.ensures) ∙ first_adds g.T.EntryLike.answers c.args.requests.now c.in-Some.request.now (sym c.in-Some.ensures.value)

pub returns-in-None : goal.returns-in-None
returns-in-None g c = none_adds g.T.EntryLike.answers c.args.requests.now (sym c.in-None.ensures.value)
