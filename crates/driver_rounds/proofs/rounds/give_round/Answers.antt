use Rattle.std.proofs.Common.{◌≡◌, ℕ, ◌<◌, All, length, map, Ok, subst, sym, ap, ◌∙◌}
use Rattle.std.specs.List.{list_any, range_with_len}
use Rattle.std.proofs.lemmas.List.{length-map, with_items_is}
use Rattle.std.proofs.lemmas.List.FromFn.{length-map-range_with_len}
use Rattle.std.proofs.lemmas.Result.{err_from_is_err_and}
use Rattle.rendering_context.specs.Views.{state_view}
use Rattle.driver_requests.specs.Cites.{Numbered, entry_of}
use Rattle.driver_requests.specs.Errors.{overflow_of}
use Rattle.driver_disambiguation.specs.States.{is_given_to, states_after}
use Rattle.driver_disambiguation.specs.Rounds.{Disambiguation}
use Rattle.driver_disambiguation.specs.CitesViews.{printed_cites_view}
use Rattle.driver_names.specs.Views.{given_states_view}
use Rattle.driver_rounds.specs.Rounding.{AreWithin, are_again}
use Rattle.driver_rounds.specs.FirstPrints.{flattened}
use Rattle.driver_rounds.specs.Views.{printed_by_states, all_numbered_cites_view}
use Rattle.driver_rounds.proofs.RoundSteps.{round_ends, round_given_is}
use Rattle.driver_rounds.proofs.RunsSteps.{runs_within}
use Rattle.driver_rounds.proofs.rounds.give_round.Goals as goal

pub returns-in_err-given-clause-entry_states : goal.returns-in_err-given-clause-entry_states
returns-in_err-given-clause-entry_states g c =
    let p = err_from_is_err_and c.from_residual.result c.from_residual.ensures.1 in
    let old : Disambiguation = record { states = map state_view c.args.entry_states.now.states.items; given = given_states_view c.args.entry_states.now.given.items } in
    rw (p.1, p.2) (round_ends c.args.adds_names (flattened (all_numbered_cites_view g.T.EntryLike.answers c.args.cites.requests.now c.args.cites.runs.now)) (overflow_of c.in_err-given.field-0.0) c.args.round old (printed_cites_view c.args.entry_states.now.printed) c.requires.printed c.in_err-given.ensures)

pub print_again-requires-clause-within : goal.print_again-requires-clause-within
print_again-requires-clause-within g c =
    let filled = with_items_is c.args.entry_states.now.states c.update_states.new.states (c.update_states.auto.states ∙ ap length c.deref_mut.ensures.value ∙ sym c.args.entry_states.now.states.ok.0) in
    let long : length c.deref-2.result.now ≡ length c.args.entry_states.now.states.items = ap length (c.deref-2.ensures.value ∙ filled) ∙ c.update_states.auto.states ∙ ap length c.deref_mut.ensures.value in
    let P : ℕ → Type 0 = λ n. AreWithin n c.args.cites.runs.now in
    subst P (sym long) c.requires.within

pub print_again-requires-clause-given : goal.print_again-requires-clause-given
print_again-requires-clause-given g c =
    let filled = with_items_is c.args.entry_states.now.states c.update_states.new.states (c.update_states.auto.states ∙ ap length c.deref_mut.ensures.value ∙ sym c.args.entry_states.now.states.ok.0) in
    let long : length c.deref-2.result.now ≡ length c.deref_mut.result.now = ap length (c.deref-2.ensures.value ∙ filled) ∙ c.update_states.auto.states in
    ap length (c.deref-3.ensures.value ∙ c.in_ok-is_given.ensures.given) ∙ length-map-range_with_len (λ e. list_any (is_given_to e) (given_states_view c.deref.result.now)) 0 (length c.deref_mut.result.now) ∙ sym long

pub print_again-requires-clause-printed : goal.print_again-requires-clause-printed
print_again-requires-clause-printed g c =
    ap length c.requires.printed ∙ length-map (flattened (all_numbered_cites_view g.T.EntryLike.answers c.args.cites.requests.now c.args.cites.runs.now)) (printed_by_states (map state_view c.args.entry_states.now.states.items))

pub returns-clause-entry_states : goal.returns-clause-entry_states
returns-clause-entry_states g c =
    let ns = flattened (all_numbered_cites_view g.T.EntryLike.answers c.args.cites.requests.now c.args.cites.runs.now) in
    let items = c.args.entry_states.now.states.items in
    let old : Disambiguation = record { states = map state_view items; given = given_states_view c.args.entry_states.now.given.items } in
    let Q : ℕ → Type 0 = λ n. All (λ (m : Numbered g.row.P.Denot). entry_of m.cite < n) ns in
    let filled = with_items_is c.args.entry_states.now.states c.update_states.new.states (c.update_states.auto.states ∙ ap length c.deref_mut.ensures.value ∙ sym c.args.entry_states.now.states.ok.0) in
    let states_are : map state_view c.update_states.new.states ≡ states_after (given_states_view c.in_ok-given.given.items) (map state_view items) =
    c.in_ok-is_given.ensures.states ∙ (λ j. states_after (given_states_view (c.deref.ensures.value j)) (map state_view (c.deref_mut.ensures.value j))) in
    let given_are : c.in_ok-is_given.is_given.items ≡ map (λ e. list_any (is_given_to e) (given_states_view c.in_ok-given.given.items)) (range_with_len 0 (length (map state_view items))) =
    c.in_ok-is_given.ensures.given
    ∙ (λ j. map (λ e. list_any (is_given_to e) (given_states_view (c.deref.ensures.value j))) (range_with_len 0 (length (c.deref_mut.ensures.value j))))
    ∙ ap (λ n. map (λ e. list_any (is_given_to e) (given_states_view c.in_ok-given.given.items)) (range_with_len 0 n)) (sym (length-map items state_view)) in
    let viewed : c.deref-2.result.now ≡ c.update_states.new.states = c.deref-2.ensures.value ∙ filled in
    let again_are : printed_cites_view c.print_again.new.printed ≡ are_again (map state_view c.update_states.new.states) c.in_ok-is_given.is_given.items ns (printed_cites_view c.args.entry_states.now.printed) =
    c.in_ok-print_again.ensures.printed ∙ (λ j. are_again (map state_view (viewed j)) (c.deref-3.ensures.value j) ns (printed_cites_view c.args.entry_states.now.printed)) in
    round_given_is c.args.adds_names c.args.round ns old (printed_cites_view c.args.entry_states.now.printed) (printed_cites_view c.print_again.new.printed) (given_states_view c.in_ok-given.given.items) (given_states_view c.append_given.new.given.items) (map state_view c.update_states.new.states)
    c.in_ok-is_given.is_given.items c.requires.printed c.in_ok-given.ensures c.requires.given
    (subst Q (sym (length-map items state_view)) (runs_within g.T.EntryLike.answers (length items) c.args.cites.requests.now c.args.cites.runs.now c.requires.within)) states_are given_are again_are c.in_ok-append_given.ensures
    ∙ (λ j. Ok (record { states = map state_view (sym filled j); given = given_states_view c.append_given.new.given.items }, printed_cites_view c.print_again.new.printed))
