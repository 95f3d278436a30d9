use Rattle.std.proofs.Common.{Some, sym, ap, ◌∙◌}
use Rattle.std.specs.Option.{option_map}
use Rattle.rendering_people.specs.Properties.{raised_to}
use Rattle.driver_rounds.proofs.first_printing.raised_names.Goals as goal

pub returns-in_ok-raised_to-in-Some : goal.returns-in_ok-raised_to-in-Some
returns-in_ok-raised_to-in-Some c = ap Some c.in_ok-raised_to-in-Some.ensures ∙ ap (option_map (raised_to c.args.others.now)) (sym c.in-Some.is)

pub returns-in-None : goal.returns-in-None
returns-in-None c = ap (option_map (raised_to c.args.others.now)) (sym c.in-None.is)
