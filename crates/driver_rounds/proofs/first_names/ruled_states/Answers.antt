use Rattle.std.proofs.Common.{◌+◌, ◌≤◌, sym, ap, subst, ◌∙◌, arith, Option}
use Rattle.driver_rounds.specs.CitesInStep.{all_cites, cites_count}
use Rattle.driver_rounds.specs.FirstPrints as first
use Rattle.driver_rounds.specs.Naming.{calls_where}
use Rattle.rendering_taxonomy.specs.declared.style.DisambiguationRule.{DisambiguationRule}
use Rattle.driver_rounds.proofs.first_names.ruled_states.Goals as goal

pub returns-in_ok-states_by-in-Some-clause-states : goal.returns-in_ok-states_by-in-Some-clause-states
returns-in_ok-states_by-in-Some-clause-states g c =
    c.in_ok-states_by-in-Some.ensures.states ∙ ap (λ o. first.ruled_states o c.args.entries (all_cites g.T.EntryLike.answers c.args.cites)) (sym c.in-Some.is)

pub returns-in_ok-states_by-in-Some-clause-effort : goal.returns-in_ok-states_by-in-Some-clause-effort
returns-in_ok-states_by-in-Some-clause-effort g c =
    subst (λ (o : Option DisambiguationRule). c.states_by.new.effort ≤ c.args.effort.now + calls_where o (cites_count g.T.EntryLike.answers c.args.cites)) (sym c.in-Some.is) c.in_ok-states_by-in-Some.ensures.effort

pub returns-in-None-clause-states : goal.returns-in-None-clause-states
returns-in-None-clause-states g c = ap (λ o. first.ruled_states o c.args.entries (all_cites g.T.EntryLike.answers c.args.cites)) (sym c.in-None.is)

pub returns-in-None-clause-effort : goal.returns-in-None-clause-effort
returns-in-None-clause-effort g c = omega arith
