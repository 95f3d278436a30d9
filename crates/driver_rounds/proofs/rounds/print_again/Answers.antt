use Rattle.std.proofs.Common.{◌+◌, length, map, drop, arith}
use Rattle.rendering_context.specs.Views.{state_view}
use Rattle.driver_disambiguation.proofs.CitesFit.{cites_fit}
use Rattle.driver_disambiguation.specs.CitesViews.{printed_cites_view}
use Rattle.driver_rounds.specs.CitesInStep.{request_cites}
use Rattle.driver_rounds.specs.FirstPrints.{flattened}
use Rattle.driver_rounds.specs.Views.{all_numbered_cites_view}
use Rattle.driver_rounds.proofs.AgainSteps.{again_done, again_run, again_run_length}
use Rattle.driver_rounds.proofs.CitationsLoop.{cites_count_on, left_size, left_step, own_long, own_low}
use Rattle.driver_rounds.proofs.RunsSteps.{runs_done}
use Rattle.driver_rounds.proofs.rounds.print_again.Goals as goal

pub overflow_add-start : goal.overflow_add-start
overflow_add-start g c =
    let own = c.request-own.ensures in
    let left = left_size g.T.EntryLike.answers c.args.cites c.request-own.result c.loop-index.index c.requires.in_step c.loop-index-test.true own.request own.run in
    omega (arith, left, c.loop-index.invariant.many, cites_fit c.loop-index.printed)

pub print_request_again-requires-clause-within : goal.print_request_again-requires-clause-within
print_request_again-requires-clause-within g c =
    let own = c.request-own.ensures in
    own_low g.T.EntryLike.answers c.args.cites c.request-own.result c.loop-index.index c.requires.in_step c.loop-index-test.true own.request own.run (length c.args.states.now) c.requires.within

pub print_request_again-requires-clause-given : goal.print_request_again-requires-clause-given
print_request_again-requires-clause-given g c = c.requires.given

pub print_request_again-requires-clause-printed : goal.print_request_again-requires-clause-printed
print_request_again-requires-clause-printed g c =
    let own = c.request-own.ensures in
    let left = left_size g.T.EntryLike.answers c.args.cites c.request-own.result c.loop-index.index c.requires.in_step c.loop-index-test.true own.request own.run in
    omega (arith, left, c.loop-index.invariant.many)

pub loop-index-preserved : goal.loop-index-preserved
loop-index-preserved g c =
    let answers = g.T.EntryLike.answers in
    let cites = c.args.cites in
    let own = c.request-own.result in
    let n = c.loop-index.index in
    let in_step = c.requires.in_step in
    let less = c.loop-index-test.true in
    let request = c.request-own.ensures.request in
    let run = c.request-own.ensures.run in
    let start = c.loop-index.start in
    let states = map state_view c.args.states.now in
    let old = printed_cites_view c.loop-index.printed in
    let new = printed_cites_view c.print_request_again.new.printed in
    let here = request_cites answers own in
    let rest = flattened (all_numbered_cites_view answers (drop n cites.requests.now) (drop n cites.runs.now)) in
    let more = flattened (all_numbered_cites_view answers (drop (n + 1) cites.requests.now) (drop (n + 1) cites.runs.now)) in
    let size = left_size answers cites own n in_step less request run in
    let same = again_run_length states c.args.is_given.now old new start here (omega (arith, size, c.loop-index.invariant.many)) c.in_ok-print_request_again.ensures.printed in
    record {
      printed = again_run states c.args.is_given.now old new start (length own.run.now) (start + length own.run.now) here rest more _ (omega arith) (omega (arith, size, c.loop-index.invariant.many)) (own_long answers cites own n in_step less request run)
          (left_step answers cites own n in_step less request run) c.loop-index.invariant.printed c.in_ok-print_request_again.ensures.printed;
      many = omega (arith, size, c.loop-index.invariant.many, same);
      effort = cites_count_on answers cites own n in_step less request run c.loop-index.effort c.print_request_again.new.effort _ c.loop-index.invariant.effort c.in_ok-print_request_again.ensures.effort;
    }

pub returns-clause-printed : goal.returns-clause-printed
returns-clause-printed g c =
    let n = c.loop-index.index in
    let rest = flattened (all_numbered_cites_view g.T.EntryLike.answers (drop n c.args.cites.requests.now) (drop n c.args.cites.runs.now)) in
    again_done (map state_view c.args.states.now) c.args.is_given.now (printed_cites_view c.loop-index.printed) c.loop-index.start rest _ (runs_done g.T.EntryLike.answers c.args.cites.requests.now c.args.cites.runs.now n c.loop-index-test.false) c.loop-index.invariant.printed
