use Rattle.std.proofs.Common.{Bool, ◌+◌, ◌≤◌, sym, ap, subst, ◌∙◌, arith, Option}
use Rattle.driver_rounds.specs.CitesInStep.{all_cites, cites_count}
use Rattle.driver_rounds.specs.FirstPrints as first
use Rattle.driver_rounds.specs.Naming.{calls_where}
use Rattle.driver_rounds.proofs.first_names.states_by_naming.Goals as goal

pub returns-in_ok-kept_states-in-Some-clause-states : goal.returns-in_ok-kept_states-in-Some-clause-states
returns-in_ok-kept_states-in-Some-clause-states g c =
    c.in_ok-kept_states-in-Some.ensures.states ∙ ap (λ o. first.states_by_naming o c.args.rule c.args.entries (all_cites g.T.EntryLike.answers c.args.cites)) (sym c.in-Some.is)

pub returns-in_ok-kept_states-in-Some-clause-effort : goal.returns-in_ok-kept_states-in-Some-clause-effort
returns-in_ok-kept_states-in-Some-clause-effort g c =
    let n = cites_count g.T.EntryLike.answers c.args.cites in
    subst (λ (o : Option Bool). c.kept_states.new.effort ≤ c.args.effort.now + (calls_where c.args.rule n + calls_where o n)) (sym c.in-Some.is) c.in_ok-kept_states-in-Some.ensures.effort

pub returns-in_ok-states-in-None-clause-states : goal.returns-in_ok-states-in-None-clause-states
returns-in_ok-states-in-None-clause-states g c =
    c.in_ok-states-in-None.ensures.states ∙ ap (λ o. first.states_by_naming o c.args.rule c.args.entries (all_cites g.T.EntryLike.answers c.args.cites)) (sym c.in-None.is)

pub returns-in_ok-states-in-None-clause-effort : goal.returns-in_ok-states-in-None-clause-effort
returns-in_ok-states-in-None-clause-effort g c = omega (arith, c.in_ok-states-in-None.ensures.effort)
