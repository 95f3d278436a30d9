use Rattle.std.proofs.Common.{◌≡◌, length, map, Some, sym, ap, ◌∙◌}
use Rattle.std.proofs.lemmas.List.{with_items_is}
use Rattle.rendering_context.specs.Views.{state_view}
use Rattle.driver_names.specs.FirstNames.{first_names}
use Rattle.driver_names.specs.Views.{given_states_view, printed_view}
use Rattle.driver_disambiguation.specs.States.{states_after}
use Rattle.driver_rounds.specs.CitesInStep.{all_cites}
use Rattle.driver_rounds.specs.FirstPrints.{printed_undisambiguated}
use Rattle.driver_rounds.proofs.first_names.states_by.Goals as goal

pub returns-clause-states : goal.returns-clause-states
returns-clause-states g c =
    let given : given_states_view c.in_ok-given.given.items ≡ first_names c.args.rule (map printed_undisambiguated (all_cites g.T.EntryLike.answers c.args.cites)) =
    c.in_ok-given.ensures ∙ ap (first_names c.args.rule) (ap (map printed_view) c.as_slice.ensures.value ∙ c.in_ok-prints.ensures.printed) in
    let filled = with_items_is c.in_ok-states.states c.update_states.new.states (c.update_states.auto.states ∙ ap length c.deref_mut.ensures.value ∙ sym c.in_ok-states.states.ok.0) in
    ap Some
    (ap (map state_view) filled
    ∙ c.in_ok-_is_given.ensures.states
    ∙ (λ j. states_after (given_states_view (c.deref.ensures.value j)) (map state_view (c.deref_mut.ensures.value j)))
    ∙ (λ j. states_after (given j) (c.in_ok-states.ensures j)))
