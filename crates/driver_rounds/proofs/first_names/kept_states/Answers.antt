use Rattle.std.proofs.Common.{◌≡◌, length, map, Some, sym, ap, ◌∙◌, arith}
use Rattle.std.specs.Option.{option_map}
use Rattle.std.proofs.lemmas.List.{with_items_is}
use Rattle.rendering_context.specs.Views.{state_view}
use Rattle.driver_names.specs.Views.{given_states_view}
use Rattle.driver_disambiguation.specs.Rounds.{names_given}
use Rattle.driver_disambiguation.specs.States.{states_after}
use Rattle.driver_rounds.specs.CitesInStep.{all_cites}
use Rattle.driver_rounds.specs.FirstPrints.{printed_with, ruled_states, states_or}
use Rattle.driver_rounds.proofs.NamingSteps.{lent_states}
use Rattle.driver_rounds.proofs.first_names.kept_states.Goals as goal

pub returns-clause-states : goal.returns-clause-states
returns-clause-states g c =
    let ns = all_cites g.T.EntryLike.answers c.args.cites in
    let ruled = c.in_ok-named.ensures.states in
    let given : given_states_view c.in_ok-given.given.items ≡ names_given c.args.adds_names (printed_with (ruled_states c.args.rule c.args.entries ns) ns) =
    c.in_ok-given.ensures.given ∙ ap (λ o. names_given c.args.adds_names (printed_with o ns)) (lent_states c.lent.result c.in_ok-named.named c.lent.ensures ∙ ruled) in
    let from : map state_view c.in_ok-states.states.items ≡ states_or c.args.entries (ruled_states c.args.rule c.args.entries ns) =
    c.in_ok-states.ensures ∙ ap (states_or c.args.entries) ruled in
    let filled = with_items_is c.in_ok-states.states c.update_states.new.states (c.update_states.auto.states ∙ ap length c.deref_mut.ensures.value ∙ sym c.in_ok-states.states.ok.0) in
    ap Some
    (ap (map state_view) filled
    ∙ c.in_ok-_is_given.ensures.states
    ∙ (λ j. states_after (given_states_view (c.deref.ensures.value j)) (map state_view (c.deref_mut.ensures.value j)))
    ∙ (λ j. states_after (given j) (from j)))

pub returns-clause-effort : goal.returns-clause-effort
returns-clause-effort g c = omega (arith, c.in_ok-named.ensures.effort, c.in_ok-given.ensures.effort)
