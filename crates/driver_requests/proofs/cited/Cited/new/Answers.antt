use Rattle.std.proofs.Common.{◌≤◌, ℕ, length, arith, Vec}
use Rattle.std.specs.Global.{Global}
use Rattle.laws.specs.Borrowed.{borrowed}
use Rattle.driver_requests.specs.Indices.{runs}
use Rattle.driver_requests.specs.Views.{entries_of, entry_of_item}
use Rattle.driver_requests.proofs.IndicesRead.{all_entries, all_entries_step, all_runs, entries_as, indices_within, run_as, runs_step}
use Rattle.driver_requests.proofs.cited.Cited.new.Goals as goal

pub loop-request-preserved : goal.loop-request-preserved
loop-request-preserved g c =
    let eq = g.T.PartialEq.eq in
    let requests = c.args.requests.now in
    let i = c.loop-request.request-index in
    let request = c.request-item.result in
    let items = request.items.items in
    let old = borrowed c.loop-request.entries.items in
    let new = borrowed c.request_indices.new.entries.items in
    let one = entries_as eq entry_of_item c.as_slice.result.now items c.as_slice.ensures.value old new c.in_ok-run.ensures.entries in
    let run = run_as eq entry_of_item c.as_slice.result.now items c.as_slice.ensures.value new c.in_ok-run.run'.items c.in_ok-run.ensures.run in (
      c.in_ok-run.ensures.table,
      all_entries_step eq entries_of requests i request c.loop-request-test.true c.request-item.is old new one c.loop-request.invariant.1,
      runs_step eq (λ (v : Vec ℕ Global). v.items) entries_of requests i request c.loop-request-test.true c.request-item.is old new one c.loop-request.runs.items c.push.new.self.items c.in_ok-run.run' c.in_ok-push.ensures.items run
          c.loop-request.invariant.2,
    )

pub returns-clause-entries : goal.returns-clause-entries
returns-clause-entries g c =
    let over : length c.args.requests.now ≤ c.loop-request.request-index = omega (arith, c.loop-request-test.false) in
    all_entries g.met.T.Eq.laws entries_of c.args.requests.now c.loop-request.request-index over (borrowed c.loop-request.entries.items) c.loop-request.invariant.1

pub returns-clause-runs : goal.returns-clause-runs
returns-clause-runs g c =
    let over : length c.args.requests.now ≤ c.loop-request.request-index = omega (arith, c.loop-request-test.false) in
    all_runs g.met.T.Eq.laws entries_of c.args.requests.now c.loop-request.request-index over (borrowed c.loop-request.entries.items) c.loop-request.invariant.1 (runs c.loop-request.runs.items) c.loop-request.invariant.2

pub returns-clause-within : goal.returns-clause-within
returns-clause-within g c =
    indices_within g.met.T.Eq.laws entries_of c.args.requests.now c.loop-request.entries.items (runs c.loop-request.runs.items) (returns-clause-entries g c) (returns-clause-runs g c)
