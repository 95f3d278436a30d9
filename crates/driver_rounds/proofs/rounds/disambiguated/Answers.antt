use Rattle.std.proofs.Common.{ℕ, length, map, subst, sym, ap, ◌∙◌, arith}
use Rattle.std.specs.Prelude.{fold}
use Rattle.std.specs.List.{range_with_len}
use Rattle.std.proofs.lemmas.List.{length-map, length-replicate}
use Rattle.std.proofs.lemmas.Result.{err_from_is_err_and}
use Rattle.rendering_context.specs.Cites.{undisambiguated}
use Rattle.rendering_context.specs.Views.{state_view}
use Rattle.driver_requests.specs.Errors.{overflow_of}
use Rattle.driver_requests.specs.Views.{request_view}
use Rattle.driver_disambiguation.specs.States.{undisambiguated_states, suffixes_overflow}
use Rattle.driver_disambiguation.specs.Rounds as rounds
use Rattle.driver_disambiguation.specs.CitesViews.{printed_cites_view}
use Rattle.driver_names.specs.Views.{given_states_view}
use Rattle.driver_rounds.specs.Rounding.{AreWithin, round_states_view}
use Rattle.driver_rounds.specs.FirstPrints.{adds_names, candidate, first_print, flattened}
use Rattle.driver_rounds.specs.Views.{printed_by_states, all_numbered_cites_view}
use Rattle.driver_rounds.proofs.RoundSteps.{rounds_count_on, rounds_counted, rounds_done, rounds_end, rounds_go_on, printed_undisambiguated_all}
use Rattle.driver_rounds.proofs.RunsSteps.{runs_within}
use Rattle.driver_rounds.proofs.rounds.disambiguated.Goals as goal

pub loop-round-init : goal.loop-round-init
loop-round-init g c =
    let ns = flattened (all_numbered_cites_view g.T.EntryLike.answers c.args.cites.requests.now c.args.cites.runs.now) in
    let names = adds_names (map (request_view (λ e. 0) g.T.EntryLike.answers) c.args.cites.requests.now) in
    let cites = map (λ n. candidate (first_print n)) ns in
    record {
      same = ap (λ ms. fold (rounds.after_round names cites) (record { states = ms; given = given_states_view c.new-2.result.items }) (range_with_len 0 3)) c.in_ok-undisambiguated_states.ensures
          ∙ ap (λ gs. fold (rounds.after_round names cites) (record { states = undisambiguated_states c.args.entries; given = given_states_view gs }) (range_with_len 0 3)) c.new-2.ensures.items;
      printed = c.in_ok-printed.ensures ∙ c.requires.printed ∙ printed_undisambiguated_all c.args.entries ns (runs_within g.T.EntryLike.answers c.args.entries c.args.cites.requests.now c.args.cites.runs.now c.requires.within) ∙ ap (λ ms. map (printed_by_states ms) ns) (sym c.in_ok-undisambiguated_states.ensures);
      given = ap (λ gs. suffixes_overflow (given_states_view gs)) c.new-2.ensures.items;
      many = sym (length-map c.in_ok-undisambiguated_states.field-0.items state_view) ∙ ap length c.in_ok-undisambiguated_states.ensures ∙ length-replicate c.args.entries undisambiguated;
      effort = omega arith;
    }

pub give_round-requires-clause-within : goal.give_round-requires-clause-within
give_round-requires-clause-within g c =
    let P : ℕ → Type 0 = λ n. AreWithin n c.args.cites.runs.now in
    subst P (sym c.loop-round.invariant.many) c.requires.within

pub give_round-requires-clause-given : goal.give_round-requires-clause-given
give_round-requires-clause-given g c = c.loop-round.invariant.given

pub give_round-requires-clause-printed : goal.give_round-requires-clause-printed
give_round-requires-clause-printed g c = c.loop-round.invariant.printed

pub loop-round-preserved : goal.loop-round-preserved
loop-round-preserved g c =
    let ns = flattened (all_numbered_cites_view g.T.EntryLike.answers c.args.cites.requests.now c.args.cites.runs.now) in
    let names = adds_names (map (request_view (λ e. 0) g.T.EntryLike.answers) c.args.cites.requests.now) in
    let on = rounds_go_on names ns c.adds_names-adds_names.result c.loop-round.round (round_states_view c.loop-round.entry_states).0 (round_states_view c.give_round.new.entry_states).0 (rounds.disambiguated names c.args.entries (map (λ n. candidate (first_print n)) ns))
    (printed_cites_view c.give_round.new.entry_states.printed) c.adds_names-adds_names.ensures c.loop-round-test.true c.loop-round.invariant.same c.in_ok-give_round.ensures.entry_states in
    record {
      same = on.0;
      printed = on.1;
      given = on.2;
      many = sym (length-map c.give_round.new.entry_states.states.items state_view) ∙ on.3 ∙ length-map c.loop-round.entry_states.states.items state_view ∙ c.loop-round.invariant.many;
      effort = rounds_count_on c.loop-round.round (length ns) c.loop-round.effort c.give_round.new.effort _ c.loop-round-test.true c.loop-round.invariant.effort c.in_ok-give_round.ensures.effort;
    }

pub returns-in_err-give_round-clause-entry_states : goal.returns-in_err-give_round-clause-entry_states
returns-in_err-give_round-clause-entry_states g c =
    let ns = flattened (all_numbered_cites_view g.T.EntryLike.answers c.args.cites.requests.now c.args.cites.runs.now) in
    let names = adds_names (map (request_view (λ e. 0) g.T.EntryLike.answers) c.args.cites.requests.now) in
    let p = err_from_is_err_and c.from_residual-in_err-give_round.result c.from_residual-in_err-give_round.ensures.1 in
    rw (p.1, p.2) (rounds_end names ns (overflow_of c.in_err-give_round.field-0.0) c.adds_names-adds_names.result c.loop-round.round (round_states_view c.loop-round.entry_states).0 (rounds.disambiguated names c.args.entries (map (λ n. candidate (first_print n)) ns))
    c.adds_names-adds_names.ensures c.loop-round-test.true c.loop-round.invariant.same c.in_err-give_round.ensures.entry_states)

pub returns-clause-entry_states : goal.returns-clause-entry_states
returns-clause-entry_states g c =
    let ns = flattened (all_numbered_cites_view g.T.EntryLike.answers c.args.cites.requests.now c.args.cites.runs.now) in
    let names = adds_names (map (request_view (λ e. 0) g.T.EntryLike.answers) c.args.cites.requests.now) in
    rounds_done names ns c.loop-round.round (round_states_view c.loop-round.entry_states).0 (rounds.disambiguated names c.args.entries (map (λ n. candidate (first_print n)) ns)) (printed_cites_view c.loop-round.entry_states.printed) c.loop-round-test.false c.loop-round.invariant.same
    c.loop-round.invariant.printed c.loop-round.invariant.given

pub returns-clause-effort : goal.returns-clause-effort
returns-clause-effort g c = rounds_counted c.loop-round.effort _ _ c.loop-round.invariant.effort
