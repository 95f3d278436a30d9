use Rattle.std.proofs.Common.{ap, ◌++◌, map, arith}
use Rattle.driver_names.specs.Views.{printed_view}
use Rattle.driver_rounds.specs.CitesInStep.{all_cites}
use Rattle.driver_rounds.specs.FirstPrints.{printed_undisambiguated}
use Rattle.driver_rounds.specs.Views.{usage_of}
use Rattle.driver_rounds.proofs.CitationsLoop.{cites_count_on, cites_go_on}
use Rattle.driver_rounds.proofs.RunsSteps.{runs_end}
use Rattle.driver_rounds.proofs.first_printing.first_prints.Goals as goal

pub loop-index-init : goal.loop-index-init
loop-index-init g c =
    let cites = all_cites g.T.EntryLike.answers c.args.cites in
    record {
      printed = ap (λ ps. map printed_view ps ++ map printed_undisambiguated cites) c.in_ok-printed.ensures.items;
      usages = ap (λ us. us ++ map usage_of cites) c.in_ok-usages.ensures.items;
      effort = omega arith;
    }

pub loop-index-preserved : goal.loop-index-preserved
loop-index-preserved g c =
    let answers = g.T.EntryLike.answers in
    let n = c.loop-index.index in
    let less = c.loop-index-test.true in
    let own = c.request-own.ensures in
    record {
      printed = cites_go_on answers c.args.cites c.request-own.result n c.requires less own.request own.run printed_undisambiguated (map printed_view c.loop-index.prints.printed.items) (map printed_view c.print_request.new.prints.printed.items) _
          c.loop-index.invariant.printed c.in_ok-print_request.ensures.printed;
      usages = cites_go_on answers c.args.cites c.request-own.result n c.requires less own.request own.run usage_of c.loop-index.prints.usages.items c.print_request.new.prints.usages.items _ c.loop-index.invariant.usages
          c.in_ok-print_request.ensures.usages;
      effort = cites_count_on answers c.args.cites c.request-own.result n c.requires less own.request own.run c.loop-index.effort c.print_request.new.effort _ c.loop-index.invariant.effort c.in_ok-print_request.ensures.effort;
    }

pub returns-clause-printed : goal.returns-clause-printed
returns-clause-printed g c = runs_end g.T.EntryLike.answers c.args.cites.requests.now c.args.cites.runs.now printed_undisambiguated c.loop-index.index (map printed_view c.loop-index.prints.printed.items) _ c.loop-index-test.false c.loop-index.invariant.printed

pub returns-clause-usages : goal.returns-clause-usages
returns-clause-usages g c = runs_end g.T.EntryLike.answers c.args.cites.requests.now c.args.cites.runs.now usage_of c.loop-index.index c.loop-index.prints.usages.items _ c.loop-index-test.false c.loop-index.invariant.usages
