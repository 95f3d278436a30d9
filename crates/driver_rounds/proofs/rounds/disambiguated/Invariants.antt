use Rattle.std.proofs.Common.{◌≡◌, ◌+◌, ◌-◌, ◌*◌, ◌≤◌, false, map, length}
use Rattle.std.specs.Prelude.{fold}
use Rattle.std.specs.List.{range_with_len}
use Rattle.rendering_context.specs.Views.{state_view}
use Rattle.driver_disambiguation.specs.States.{suffixes_overflow}
use Rattle.driver_disambiguation.specs.Rounds as rounds
use Rattle.driver_disambiguation.specs.CitesViews.{printed_cites_view}
use Rattle.driver_names.specs.Views.{given_states_view}
use Rattle.driver_requests.specs.Views.{request_view}
use Rattle.driver_rounds.specs.Rounding.{round_states_view}
use Rattle.driver_rounds.specs.FirstPrints.{adds_names, candidate, first_print, flattened}
use Rattle.driver_rounds.specs.Views.{printed_by_states, all_numbered_cites_view}
use Rattle.driver_rounds.proofs.rounds.disambiguated.Given as goal

abbrev pub invariant-loop-round : goal.invariant-loop-round
invariant-loop-round g l = record {
  same : fold (rounds.after_round (adds_names (map (request_view (λ e. 0) g.T.EntryLike.answers) l.cites.requests.now)) (map (λ n. candidate (first_print n)) (flattened (all_numbered_cites_view g.T.EntryLike.answers l.cites.requests.now l.cites.runs.now)))) (round_states_view l.entry_states).0 (range_with_len l.round (3 - l.round))
      ≡ rounds.disambiguated (adds_names (map (request_view (λ e. 0) g.T.EntryLike.answers) l.cites.requests.now)) l.entries (map (λ n. candidate (first_print n)) (flattened (all_numbered_cites_view g.T.EntryLike.answers l.cites.requests.now l.cites.runs.now)));
  printed : printed_cites_view l.entry_states.printed ≡ map (printed_by_states (map state_view l.entry_states.states.items)) (flattened (all_numbered_cites_view g.T.EntryLike.answers l.cites.requests.now l.cites.runs.now));
  given : suffixes_overflow (given_states_view l.entry_states.given.items) ≡ false;
  many : length l.entry_states.states.items ≡ l.entries;
  effort : l.effort + (3 - l.round) * length (flattened (all_numbered_cites_view g.T.EntryLike.answers l.cites.requests.now l.cites.runs.now)) ≤ l.fn.effort + 3 * length (flattened (all_numbered_cites_view g.T.EntryLike.answers l.cites.requests.now l.cites.runs.now));
}
