use Rattle.std.proofs.Common.{◌≡◌, ◌+◌, ◌≤◌, [], drop, fold, length, map, None}
use Rattle.rendering_context.specs.Views.{state_view}
use Rattle.driver_names.specs.Views.{printed_view}
use Rattle.driver.proofs.FinalPrintsSteps.{with_prints}
use Rattle.driver.specs.FinalPrints.{cited_view, cited_with}
use Rattle.driver.specs.Printing.{final_states_view}
use Rattle.driver_rounds.specs.FirstPrints.{flattened}
use Rattle.driver_rounds.specs.Views.{printed_by_states, all_numbered_cites_view, usage_of}
use Rattle.driver.proofs.final_prints.citations.Given as goal

abbrev pub invariant-loop-index : goal.invariant-loop-index
invariant-loop-index g l =
    let answers = g.T.EntryLike.answers in
    let requests = l.cites.requests.now in
    let runs = l.cites.runs.now in
    let states = map state_view l.entry_states.states.now in
    let left = all_numbered_cites_view answers (drop l.index requests) (drop l.index runs) in
    record {
      same : fold (cited_with g.P.PartialEq.eq (final_states_view l.entry_states)) (cited_view answers states l.citations.items l.listed l.last) (with_prints answers (drop l.index requests) (drop l.index runs))
          ≡ fold (cited_with g.P.PartialEq.eq (final_states_view l.entry_states)) (cited_view answers states [] l.fn.listed None) (with_prints answers requests runs);
      printed : map printed_view l.left ≡ map (printed_by_states states) (flattened left);
      usages : l.usages ≡ map usage_of (flattened left);
      long : length l.listed ≡ length l.fn.listed;
      effort : l.effort + length (flattened left) ≤ l.fn.effort + length (flattened (all_numbered_cites_view answers requests runs));
    }
