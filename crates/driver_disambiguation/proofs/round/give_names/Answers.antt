use Rattle.std.proofs.Common.{◌++◌, ap, ◌∙◌}
use Rattle.driver_names.specs.Views.{given_states_view}
use Rattle.driver_disambiguation.proofs.round.give_names.Goals as goal

pub returns : goal.returns
returns c = c.in_ok-append_given.ensures ∙ ap (λ gs. given_states_view c.args.given.now.items ++ gs) c.in_ok-more.ensures
