use Rattle.std.proofs.Common.{◌+◌, ◌<◌, length, map, drop, get_or, ap, ◌∙◌, arith}
use Rattle.rendering_context.specs.Views.{state_view}
use Rattle.rendering.specs.Views.{style_context_view}
use Rattle.driver_disambiguation.specs.CitesViews.{printed_cites_view}
use Rattle.driver_requests.specs.Views.{context_of}
use Rattle.driver_rounds.specs.Views.{numbered_view, numbered_cites_view}
use Rattle.driver_rounds.specs.declared.cite.NumberedCite.{NumberedCite}
use Rattle.driver_rounds.proofs.AgainSteps.{again_at, again_at_length, again_done}
use Rattle.driver_rounds.proofs.RunsSteps.{run_counts_on, run_done, run_more}
use Rattle.driver_rounds.proofs.rounds.print_request_again.Goals as goal

pub bounds-cites-index : goal.bounds-cites-index
bounds-cites-index g c = omega (arith, c.requires.in_step.run, c.loop-index-test.true, ap length c.deref-item-items.ensures.value)

pub print_cite_again-requires-clause-within : goal.print_cite_again-requires-clause-within
print_cite_again-requires-clause-within g c =
    c.requires.within c.loop-index.index c.index-cites-index.result (omega (arith, c.requires.in_step.run, c.loop-index-test.true, ap length c.deref-item-items.ensures.value))

pub print_cite_again-requires-clause-at : goal.print_cite_again-requires-clause-at
print_cite_again-requires-clause-at g c =
    omega (arith, c.requires.in_step.run, c.requires.printed, c.loop-index.invariant.many, c.loop-index-test.true, ap length c.deref-item-items.ensures.value)

pub loop-index-preserved : goal.loop-index-preserved
loop-index-preserved g c =
    let answers = g.T.EntryLike.answers in
    let x = context_of c.args.cites.request.now in
    let y = style_context_view c.args.cites.context.now in
    let items = c.args.cites.request.now.items.items in
    let given = c.deref-item-items.result.now in
    let run = c.args.cites.run.now in
    let n = c.loop-index.index in
    let i = c.item-item.result in
    let same = c.requires.in_step.context in
    let list = c.deref-item-items.ensures.value in
    let less = c.loop-index-test.true in
    let many = c.requires.in_step.run in
    let is = c.item-item.is in
    let states = map state_view c.args.states.now in
    let k = get_or run n c.index-cites-index.result in
    let also = ap (λ (m : NumberedCite). get_or run n m) c.index-cites-index.is in
    let one = numbered_view answers y i k in
    let old = printed_cites_view c.loop-index.printed in
    let new = printed_cites_view c.print_cite_again.new.printed in
    let at = c.args.start + n in
    let low : at < length old = omega (arith, c.requires.in_step.run, c.requires.printed, c.loop-index.invariant.many, c.loop-index-test.true, ap length c.deref-item-items.ensures.value) in
    record {
      printed = again_at states c.args.is_given.now old new at (c.args.start + (n + 1)) one (numbered_cites_view answers x (drop n items) (drop n run)) (numbered_cites_view answers x (drop (n + 1) items) (drop (n + 1) run)) _ low (omega arith)
          (run_more answers x items run y given n i k same list less many is also) c.loop-index.invariant.printed c.in_ok-print_cite_again.ensures.printed;
      many = again_at_length states c.args.is_given.now old new at one c.in_ok-print_cite_again.ensures.printed ∙ c.loop-index.invariant.many;
      effort = run_counts_on answers x items run y given n i k c.loop-index.effort c.print_cite_again.new.effort _ same list less many is also c.loop-index.invariant.effort c.in_ok-print_cite_again.ensures.effort;
    }

pub returns-clause-printed : goal.returns-clause-printed
returns-clause-printed g c =
    let x = context_of c.args.cites.request.now in
    let items = c.args.cites.request.now.items.items in
    let run = c.args.cites.run.now in
    let n = c.loop-index.index in
    again_done (map state_view c.args.states.now) c.args.is_given.now (printed_cites_view c.loop-index.printed) (c.args.start + n) (numbered_cites_view g.T.EntryLike.answers x (drop n items) (drop n run)) _
    (run_done g.T.EntryLike.answers x items run n (omega (arith, c.loop-index-test.false, ap length c.deref-item-items.ensures.value))) c.loop-index.invariant.printed
