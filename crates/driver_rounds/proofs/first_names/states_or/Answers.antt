use Rattle.std.proofs.Common.{List, map, sym, ap, ◌∙◌, Option, Vec}
use Rattle.std.specs.Global.{Global}
use Rattle.std.specs.Option.{option_map}
use Rattle.rendering_context.specs.Views.{state_view}
use Rattle.rendering_context.specs.declared.cite.DisambiguateState.{DisambiguateState}
use Rattle.driver_rounds.specs.FirstPrints as first
use Rattle.driver_rounds.proofs.first_names.states_or.Goals as goal

pub returns-in-Some : goal.returns-in-Some
returns-in-Some c = ap (λ (o : Option (Vec DisambiguateState Global)). first.states_or c.args.entries (option_map (λ v. map state_view v.items) o)) (sym c.in-Some.is)

pub returns-in_ok-fresh-in-None : goal.returns-in_ok-fresh-in-None
returns-in_ok-fresh-in-None c =
    c.in_ok-fresh-in-None.ensures ∙ ap (λ (o : Option (Vec DisambiguateState Global)). first.states_or c.args.entries (option_map (λ v. map state_view v.items) o)) (sym c.in-None.is)
