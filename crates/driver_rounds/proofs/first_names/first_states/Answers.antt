use Rattle.std.proofs.Common.{◌+◌, ◌≤◌, ap, subst, ◌∙◌}
use Rattle.driver_rounds.specs.CitesInStep.{all_cites, cites_count}
use Rattle.driver_rounds.specs.FirstPrints as first
use Rattle.driver_rounds.specs.FirstPrints.{FirstNaming}
use Rattle.driver_rounds.specs.Naming.{first_effort}
use Rattle.driver_rounds.proofs.first_names.first_states.Goals as goal

pub returns-clause-states : goal.returns-clause-states
returns-clause-states g c =
    c.in_ok-states.ensures.states ∙ ap (λ (n : FirstNaming). first.first_states n c.args.entries (all_cites g.T.EntryLike.answers c.args.cites)) c.first_naming-naming.ensures

pub returns-clause-effort : goal.returns-clause-effort
returns-clause-effort g c =
    subst (λ (n : FirstNaming). c.states_by_naming.new.effort ≤ c.args.effort.now + first_effort n (cites_count g.T.EntryLike.answers c.args.cites)) c.first_naming-naming.ensures c.in_ok-states.ensures.effort
