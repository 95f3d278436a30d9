use Rattle.std.proofs.Common.{◌≤◌, length, arith}
use Rattle.laws.specs.Borrowed.{borrowed}
use Rattle.driver_requests.specs.Views.{entry_of_item}
use Rattle.driver_requests.proofs.IndicesRead.{entries_step, run_end, run_step}
use Rattle.driver_requests.proofs.cited.request_indices.Goals as goal

pub loop-item-preserved : goal.loop-item-preserved
loop-item-preserved g c =
    let items = c.args.items.now in
    let i = c.loop-item.item-index in
    let item = c.item-item.result in
    let old = borrowed c.loop-item.entries.items in
    let new = borrowed c.index_of.new.entries.items in
    let one = c.in_ok-index_of.ensures.entries in (
      c.in_ok-index_of.ensures.table,
      entries_step g.T.PartialEq.eq entry_of_item items i item c.loop-item-test.true c.item-item.is (borrowed c.args.entries.now.items) old new one c.loop-item.invariant.1,
      run_step g.met.T.Eq.laws entry_of_item items i item c.loop-item-test.true c.item-item.is old new one c.loop-item.run.items c.push.new.self.items c.in_ok-index_of.field-0 c.in_ok-push.ensures.items c.in_ok-index_of.ensures.index c.loop-item.invariant.2,
    )

pub returns-clause-run : goal.returns-clause-run
returns-clause-run g c =
    let over : length c.args.items.now ≤ c.loop-item.item-index = omega (arith, c.loop-item-test.false) in
    run_end g.T.PartialEq.eq entry_of_item c.args.items.now c.loop-item.item-index over (borrowed c.loop-item.entries.items) c.loop-item.run.items c.loop-item.invariant.2
