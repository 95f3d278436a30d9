use Rattle.std.proofs.Common.{◌<◌, ◌≤◌, length, map, arith, Vec}
use Rattle.std.specs.Global.{Global}
use Rattle.driver_requests.specs.Notes.{note_view, notes_view}
use Rattle.driver_requests.specs.Indices.{runs}
use Rattle.driver_requests.specs.History.{facts_after}
use Rattle.driver_requests.specs.HistoryViews.{facts_view, history_at}
use Rattle.driver_requests.specs.declared.history.CiteFacts.{CiteFacts}
use Rattle.driver_requests.proofs.NotesRead.{facts_more, facts_end, note_at, note_count, run_within}
use Rattle.driver_requests.proofs.facts.facts_of_each.Goals as goal

pub facts_of-requires : goal.facts_of-requires
facts_of-requires g c =
    let i = c.loop-index.index in
    let here : i < length c.args.indices.now = omega (arith, c.requires.runs, c.loop-index-test.true) in
    run_within c.args.indices.now (length c.args.histories.now) (length c.loop-index.histories) i c.index-indices-index.result c.as_slice.result.now here c.index-indices-index.is c.as_slice.ensures.value c.loop-index.auto.histories c.requires.within

pub loop-index-preserved : goal.loop-index-preserved
loop-index-preserved g c =
    let i = c.loop-index.index in
    let rs = c.args.requests.now in
    let vs = c.args.indices.now in
    let r = c.index-requests-index.result in
    let ps = c.as_slice.result.now in
    let notes = notes_view rs (runs vs) in
    let here : i < length notes = omega (arith, note_count rs vs c.requires.runs, c.loop-index-test.true) in
    facts_more (λ (run : Vec CiteFacts Global). map facts_view run.items) notes i (note_view r ps) here
    (note_at rs vs i r c.index-indices-index.result ps c.requires.runs c.loop-index-test.true c.index-requests-index.is c.index-indices-index.is c.as_slice.ensures.value)
    (history_at c.loop-index.histories) (history_at c.facts_of.new.histories) c.in_ok-run.ensures.after_request c.loop-index.facts.items c.push.new.self.items c.in_ok-run.run' c.in_ok-push.ensures.items c.in_ok-run.ensures.facts
    (facts_after 0 (history_at c.args.histories.now) notes) c.loop-index.invariant

pub returns : goal.returns
returns g c =
    let notes = notes_view c.args.requests.now (runs c.args.indices.now) in
    let over : length notes ≤ c.loop-index.index = omega (arith, note_count c.args.requests.now c.args.indices.now c.requires.runs, c.loop-index-test.false) in
    facts_end (λ (run : Vec CiteFacts Global). map facts_view run.items) notes c.loop-index.index (history_at c.loop-index.histories) over c.loop-index.facts.items (facts_after 0 (history_at c.args.histories.now) notes) c.loop-index.invariant
