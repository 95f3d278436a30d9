use Rattle.std.proofs.Common.{sym, ap, ◌∙◌}
use Rattle.driver_rounds.specs.Naming.{seen_under, states_by, unnamed}
use Rattle.driver_rounds.proofs.first_names.named_cite.Goals as goal

pub returns-in-Some : goal.returns-in-Some
returns-in-Some c = (λ k. (unnamed c.args.cite, c.names_at.ensures k)) ∙ ap (λ o. seen_under (states_by o) c.args.cite) (sym c.in-Some.is)

pub returns-in-None : goal.returns-in-None
returns-in-None c = ap (λ o. seen_under (states_by o) c.args.cite) (sym c.in-None.is)
