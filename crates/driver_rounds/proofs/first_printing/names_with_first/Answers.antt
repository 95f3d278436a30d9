use Rattle.std.proofs.Common.{sym, ap, ◌∙◌}
use Rattle.std.specs.Option.{option_map}
use Rattle.rendering_context.specs.Views.{lent_names}
use Rattle.rendering_people.specs.Properties.{raised_to}
use Rattle.driver_rounds.proofs.FirstPrintsSteps.{names_unraised}
use Rattle.driver_rounds.proofs.first_printing.names_with_first.Goals as goal

pub returns-in_ok-raised-in-Some : goal.returns-in_ok-raised-in-Some
returns-in_ok-raised-in-Some c = c.in_ok-raised-in-Some.ensures ∙ ap (λ o. option_map (raised_to (lent_names o)) c.args.names) (sym c.in-Some.is)

pub returns-in-None : goal.returns-in-None
returns-in-None c = names_unraised c.args.names ∙ ap (λ o. option_map (raised_to (lent_names o)) c.args.names) (sym c.in-None.is)
