use Rattle.std.proofs.Common.{ℕ, ◌+◌, ◌<◌, ◌≤◌, ◌++◌, List, length, map, ap, ◌∙◌, arith, None, Vec}
use Rattle.std.specs.Global.{Global}
use Rattle.std.specs.Prelude.{slice_index}
use Rattle.std.proofs.lemmas.List.{length-append}
use Rattle.driver_requests.specs.Indices.{runs}
use Rattle.driver_requests.specs.declared.request.CitationRequest.{CitationRequest}
use Rattle.driver_requests.specs.declared.history.CiteFacts.{CiteFacts}
use Rattle.driver_rounds.specs.Numbering.{entry_at, entries_by_request, last_item}
use Rattle.driver_rounds.specs.declared.cite.NumberedCite.{NumberedCite}
use Rattle.driver_rounds.proofs.ListsGrown.{as_long, long_at, read_goes_on, read_ends}
use Rattle.driver_rounds.proofs.NumberedSteps.{indices_within, runs_begin, runs_go_on, runs_end}
use Rattle.driver_rounds.proofs.numbered.numbered.Goals as goal

pub loop-index-init : goal.loop-index-init
loop-index-init g c = record {
  viewed = runs_begin g.T.EntryLike.answers g.P.PartialEq.eq (λ p. slice_index c.args.numbers.now p) c.args.requests.now c.args.indices.now c.args.facts.now c.in_ok-all.all.items None c.in_ok-all.ensures.items;
  entries = ap (λ (vs : List (Vec NumberedCite Global)). entries_by_request vs ++ runs c.args.indices.now) c.in_ok-all.ensures.items;
  long = ap length c.in_ok-all.ensures.items;
}

pub numbered_request-requires-clause-indices : goal.numbered_request-requires-clause-indices
numbered_request-requires-clause-indices g c =
    ap length c.as_slice-own_indices.ensures.value
    ∙ long_at (λ (v : Vec ℕ Global). length v.items) (λ (r : CitationRequest g.row.T.Denot g.row.P.Denot). length r.items.items) c.args.indices.now c.args.requests.now c.loop-index.index c.index-indices-index.result c.index-requests-index.result
    c.requires.indices c.loop-index-test.true c.index-indices-index.is c.index-requests-index.is

pub numbered_request-requires-clause-facts : goal.numbered_request-requires-clause-facts
numbered_request-requires-clause-facts g c =
    ap length c.as_slice-own_facts.ensures.value
    ∙ long_at (λ (v : Vec CiteFacts Global). length v.items) (λ (r : CitationRequest g.row.T.Denot g.row.P.Denot). length r.items.items) c.args.facts.now c.args.requests.now c.loop-index.index c.index-facts-index.result c.index-requests-index.result
    c.requires.facts c.loop-index-test.true c.index-facts-index.is c.index-requests-index.is

pub numbered_request-requires-clause-within : goal.numbered_request-requires-clause-within
numbered_request-requires-clause-within g c =
    let many = as_long (λ (v : Vec ℕ Global). length v.items) (λ (r : CitationRequest g.row.T.Denot g.row.P.Denot). length r.items.items) c.args.indices.now c.args.requests.now c.requires.indices in
    let here : c.loop-index.index < length c.args.indices.now = omega (arith, many, c.loop-index-test.true) in
    indices_within c.args.indices.now (length c.args.numbers.now) c.loop-index.index c.index-indices-index.result c.as_slice-own_indices.result.now here c.index-indices-index.is c.as_slice-own_indices.ensures.value c.requires.within

pub last_cite-last-requires : goal.last_cite-last-requires
last_cite-last-requires g c =
    ap length c.as_slice-own_indices.ensures.value
    ∙ long_at (λ (v : Vec ℕ Global). length v.items) (λ (r : CitationRequest g.row.T.Denot g.row.P.Denot). length r.items.items) c.args.indices.now c.args.requests.now c.loop-index.index c.index-indices-index.result c.index-requests-index.result
    c.requires.indices c.loop-index-test.true c.index-indices-index.is c.index-requests-index.is

pub loop-index-preserved : goal.loop-index-preserved
loop-index-preserved g c =
    let n = c.loop-index.index in
    let requests = c.args.requests.now in
    let indices = c.args.indices.now in
    let facts = c.args.facts.now in
    let r = c.index-requests-index.result in
    let all = c.loop-index.all.items in
    let new = c.push.new.self.items in
    let run = c.in_ok-run.run' in
    let so_many = as_long (λ (v : Vec ℕ Global). length v.items) (λ (q : CitationRequest g.row.T.Denot g.row.P.Denot). length q.items.items) indices requests c.requires.indices in
    let as_many = as_long (λ (v : Vec CiteFacts Global). length v.items) (λ (q : CitationRequest g.row.T.Denot g.row.P.Denot). length q.items.items) facts requests c.requires.facts in
    let b : n < length indices = omega (arith, so_many, c.loop-index-test.true) in
    let f : n < length facts = omega (arith, as_many, c.loop-index-test.true) in
    let many = ap length c.as_slice-own_facts.ensures.value
    ∙ long_at (λ (v : Vec CiteFacts Global). length v.items) (λ (q : CitationRequest g.row.T.Denot g.row.P.Denot). length q.items.items) facts requests n c.index-facts-index.result r c.requires.facts c.loop-index-test.true c.index-facts-index.is
    c.index-requests-index.is in
    record {
      viewed = runs_go_on g.T.EntryLike.answers g.P.PartialEq.eq (λ p. slice_index c.args.numbers.now p) requests indices facts all new n r c.index-indices-index.result c.index-facts-index.result c.as_slice-own_indices.result.now
          c.as_slice-own_facts.result.now run (last_item g.T.EntryLike.answers c.loop-index.last) _ _ c.loop-index.invariant.long c.loop-index-test.true b f c.index-requests-index.is c.index-indices-index.is
          c.index-facts-index.is c.as_slice-own_indices.ensures.value c.as_slice-own_facts.ensures.value many c.in_ok-run.ensures.cites c.last_cite-last.ensures c.in_ok-push.ensures.items c.loop-index.invariant.viewed;
      entries = read_goes_on (λ (v : Vec NumberedCite Global). map entry_at v.items) (λ (v : Vec ℕ Global). v.items) indices all new n c.index-indices-index.result run _ b c.index-indices-index.is c.loop-index.invariant.entries
          (c.in_ok-run.ensures.entries ∙ c.as_slice-own_indices.ensures.value) c.in_ok-push.ensures.items;
      long = ap length c.in_ok-push.ensures.items ∙ length-append all _ ∙ ap (λ m. m + 1) c.loop-index.invariant.long;
    }

pub returns-clause-cites : goal.returns-clause-cites
returns-clause-cites g c =
    runs_end g.T.EntryLike.answers g.P.PartialEq.eq (λ p. slice_index c.args.numbers.now p) c.args.requests.now c.args.indices.now c.args.facts.now c.loop-index.all.items c.loop-index.index
    (last_item g.T.EntryLike.answers c.loop-index.last) _ (omega (arith, c.loop-index-test.false)) c.loop-index.invariant.viewed

pub returns-clause-entries : goal.returns-clause-entries
returns-clause-entries g c =
    let so_many = as_long (λ (v : Vec ℕ Global). length v.items) (λ (q : CitationRequest g.row.T.Denot g.row.P.Denot). length q.items.items) c.args.indices.now c.args.requests.now c.requires.indices in
    let over : length c.args.indices.now ≤ c.loop-index.index = omega (arith, so_many, c.loop-index-test.false) in
    read_ends (λ (v : Vec NumberedCite Global). map entry_at v.items) (λ (v : Vec ℕ Global). v.items) c.args.indices.now c.loop-index.all.items c.loop-index.index _ over c.loop-index.invariant.entries
