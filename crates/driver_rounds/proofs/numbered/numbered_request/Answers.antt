use Rattle.std.proofs.Common.{◌≡◌, ◌+◌, ◌<◌, ◌≤◌, ◌++◌, get_or, length, map, refl, ap, ◌∙◌, arith}
use Rattle.std.specs.Prelude.{slice_index}
use Rattle.std.proofs.lemmas.List.{get_or_default, length-append}
use Rattle.std.proofs.lemmas.List.Elements.{All-get_or}
use Rattle.driver_requests.specs.Views.{context_of}
use Rattle.driver_rounds.specs.Numbering.{entry_at, last_item}
use Rattle.driver_rounds.proofs.ListsGrown.{copied_goes_on, copied_ends}
use Rattle.driver_rounds.proofs.NumberedSteps.{run_begins, run_puts, run_ends, stands}
use Rattle.driver_rounds.proofs.numbered.numbered_request.Goals as goal

pub loop-index-init : goal.loop-index-init
loop-index-init g c = record {
  viewed = run_begins g.T.EntryLike.answers (context_of c.args.request.now) c.args.request.now.note_number g.P.PartialEq.eq (λ p. slice_index c.args.numbers.now p) c.args.request.now.items.items c.args.indices.now c.args.facts.now
      c.in_ok-run.run'.items (last_item g.T.EntryLike.answers c.args.before) c.in_ok-run.ensures.items;
  entries = ap (λ ns. map entry_at ns ++ c.args.indices.now) c.in_ok-run.ensures.items;
  long = ap length c.in_ok-run.ensures.items;
}

pub bounds-numbers-entry : goal.bounds-numbers-entry
bounds-numbers-entry g c =
    let here : c.loop-index.index < length c.args.indices.now = omega (arith, c.loop-index-test.true, ap length c.deref-item-items.ensures.value, c.requires.indices) in
    All-get_or (λ p. p < length c.args.numbers.now) c.args.indices.now c.loop-index.index 0 here c.requires.within

pub loop-index-preserved : goal.loop-index-preserved
loop-index-preserved g c =
    let n = c.loop-index.index in
    let items = c.args.request.now.items.items in
    let indices = c.args.indices.now in
    let facts = c.args.facts.now in
    let run = c.loop-index.run.items in
    let new = c.push.new.self.items in
    let a : n < length items = omega (arith, c.loop-index-test.true, ap length c.deref-item-items.ensures.value) in
    let b : n < length indices = omega (arith, a, c.requires.indices) in
    let f : n < length facts = omega (arith, a, c.requires.facts) in
    let entry : get_or indices n 0 ≡ get_or indices n (get_or indices n 0) = get_or_default indices n 0 (get_or indices n 0) b in
    let ibid = stands g.T.EntryLike.answers g.P.PartialEq.eq (context_of c.args.request.now) c.loop-index.last c.item-item.result c.counts.result c.has_ibid_after_one-after_one.result n (get_or indices n 0) c.ibid_of-ibid.result
    c.has_ibid_after_one-after_one.ensures c.counts.ensures c.ibid_of-ibid.ensures in
    record {
      viewed = run_puts g.T.EntryLike.answers (context_of c.args.request.now) c.args.request.now.note_number g.P.PartialEq.eq (λ p. slice_index c.args.numbers.now p) items indices facts run new n c.item-item.result _
          (last_item g.T.EntryLike.answers c.loop-index.last) _ c.loop-index.invariant.long a b f (c.item-item.is ∙ ap (λ xs. get_or xs n c.item-item.result) c.deref-item-items.ensures.value) entry
          (get_or_default facts n _ _ f) refl c.note_number-note_number.ensures refl ibid refl c.in_ok-push.ensures.items c.loop-index.invariant.viewed;
      entries = copied_goes_on entry_at indices run new n (get_or indices n 0) _ indices b entry c.loop-index.invariant.entries refl c.in_ok-push.ensures.items;
      long = ap length c.in_ok-push.ensures.items ∙ length-append run _ ∙ ap (λ m. m + 1) c.loop-index.invariant.long;
    }

pub returns-clause-cites : goal.returns-clause-cites
returns-clause-cites g c =
    let over : length c.args.request.now.items.items ≤ c.loop-index.index = omega (arith, c.loop-index-test.false, ap length c.deref-item-items.ensures.value) in
    run_ends g.T.EntryLike.answers (context_of c.args.request.now) c.args.request.now.note_number g.P.PartialEq.eq (λ p. slice_index c.args.numbers.now p) c.args.request.now.items.items c.args.indices.now c.args.facts.now c.loop-index.run.items
    c.loop-index.index (last_item g.T.EntryLike.answers c.loop-index.last) _ over c.loop-index.invariant.viewed

pub returns-clause-entries : goal.returns-clause-entries
returns-clause-entries g c =
    let over : length c.args.indices.now ≤ c.loop-index.index = omega (arith, c.loop-index-test.false, ap length c.deref-item-items.ensures.value, c.requires.indices) in
    copied_ends entry_at c.args.indices.now c.loop-index.run.items c.loop-index.index _ over c.loop-index.invariant.entries
