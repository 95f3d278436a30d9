use Rattle.std.proofs.Common.{◌++◌, map, ap}
use Rattle.driver_rounds.specs.Naming.{seen, seen_under, states_by}
use Rattle.driver_rounds.proofs.ListsGrown.{read_ends, read_goes_on}
use Rattle.driver_rounds.proofs.first_names.named_run.Goals as goal

pub loop-cite-init : goal.loop-cite-init
loop-cite-init c = ap (λ ns. map seen ns ++ map (seen_under (states_by c.args.states)) c.args.run.now) c.in_ok-named.ensures.items

pub loop-cite-preserved : goal.loop-cite-preserved
loop-cite-preserved c =
    read_goes_on seen (seen_under (states_by c.args.states)) c.args.run.now c.loop-cite.named.items c.push.new.self.items c.loop-cite.cite-index c.cite-item.result c.named_cite.result _ c.loop-cite-test.true c.cite-item.is
    c.loop-cite.invariant c.named_cite.ensures c.in_ok-push.ensures.items

pub returns : goal.returns
returns c = read_ends seen (seen_under (states_by c.args.states)) c.args.run.now c.loop-cite.named.items c.loop-cite.cite-index _ c.loop-cite-test.false c.loop-cite.invariant
