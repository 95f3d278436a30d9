use Rattle.std.proofs.Common.{◌≡◌, ℕ, ◌<◌, All, List, length, sym, ap, subst, subst₂, ◌∙◌, rules, Result, Ok, Err, Vec}
use Rattle.std.specs.Borrow.{Bor}
use Rattle.std.specs.Global.{Global}
use Rattle.std.specs.Prelude.{filter_map, position}
use Rattle.std.proofs.lemmas.List.{length-map}
use Rattle.laws.specs.Results.{Gives}
use Rattle.laws.specs.Borrowed.{borrowed}
use Rattle.driver_requests.specs.CitedEntries.{index_among}
use Rattle.driver_requests.specs.Errors.{overflow_of}
use Rattle.driver_requests.specs.Indices.{runs}
use Rattle.driver_requests.specs.HistoryViews.{facts_by_request_view}
use Rattle.driver_requests.specs.Views.{entries_in}
use Rattle.driver_requests.specs.declared.error.DriverError.{DriverError}
use Rattle.driver_requests.specs.declared.history.CiteFacts.{CiteFacts}
use Rattle.driver_rounds.specs.OrderAndNumbers.{known_in, known_view}
use Rattle.driver_rounds.specs.Views.{document_view, all_numbered_cites_view}
use Rattle.driver_rounds.specs.declared.order_and_numbers.OrderAndNumbers.{OrderAndNumbers}
use Rattle.driver_rounds.proofs.KnownCites.{facts_long, given_long, known_ends, known_is}
use Rattle.driver_rounds.proofs.KnownIndices.{cites_long, cites_within, indices_long, runs_long}
use Rattle.driver_rounds.proofs.order_and_numbers.known_of.Goals as goal

pub returns-in_err-numbers-clause-known : goal.returns-in_err-numbers-clause-known
returns-in_err-numbers-clause-known g c =
    let eq = g.T.PartialEq.eq in
    let rs = c.args.requests.now in
    let es = borrowed c.in_ok-cited.cited.entries.items in
    let many = sym (length-map c.entries-count.result.now (λ (e : Bor g.row.T.Denot). e.now)) ∙ ap length c.entries-count.ensures in
    let is : c.from_residual-in_err-numbers.result ≡ Err c.in_err-numbers.field-0.0 = search rules in
    subst (λ (r : Result OrderAndNumbers DriverError). Gives overflow_of (known_view g.T.EntryLike.answers rs) r (known_in g.P.PartialEq.eq (document_view eq g.T.EntryLike.answers rs c.args.offset c.args.request.now))) (sym is)
    (known_ends g.met.T.Eq.laws g.T.EntryLike.answers g.P.PartialEq.eq rs c.args.offset c.args.request.now (overflow_of c.in_err-numbers.field-0.0) es (length c.entries-count.result.now) c.deref-2.result.now c.in_ok-cited.ensures.entries many
    (ap length c.deref-2.ensures.value ∙ c.in_ok-order.ensures.length) c.in_err-numbers.ensures)

pub cites-requires-clause-runs : goal.cites-requires-clause-runs
cites-requires-clause-runs g c = runs_long (index_among g.T.PartialEq.eq (entries_in c.args.requests.now)) c.args.requests.now c.runs-indices.result.now (c.runs-indices.ensures ∙ c.in_ok-cited.ensures.runs)

pub cites-requires-clause-within : goal.cites-requires-clause-within
cites-requires-clause-within g c =
    let entries = c.in_ok-cited.cited.entries.items in
    let many = sym (length-map c.entries-count.result.now (λ (e : Bor g.row.T.Denot). e.now)) ∙ ap length c.entries-count.ensures ∙ length-map entries (λ (e : Bor g.row.T.Denot). e.now) in
    subst₂ (λ (n : ℕ) (ps : List (List ℕ)). All (All (λ p. p < n)) ps) (sym many) (sym c.runs-indices.ensures) c.in_ok-cited.ensures.within

pub numbered-requires-clause-indices : goal.numbered-requires-clause-indices
numbered-requires-clause-indices g c = indices_long (index_among g.T.PartialEq.eq (entries_in c.args.requests.now)) c.args.requests.now c.runs-indices.result.now (c.runs-indices.ensures ∙ c.in_ok-cited.ensures.runs)

pub numbered-requires-clause-facts : goal.numbered-requires-clause-facts
numbered-requires-clause-facts g c =
    let index = index_among g.T.PartialEq.eq (entries_in c.args.requests.now) in
    let at = c.runs-indices.ensures ∙ c.in_ok-cited.ensures.runs in
    facts_long index g.T.EntryLike.answers c.args.requests.now c.deref-3.result.now (ap (λ (fs : List (Vec CiteFacts Global)). facts_by_request_view fs) c.deref-3.ensures.value ∙ c.in_ok-facts.ensures.cites index g.T.EntryLike.answers at)

pub numbered-requires-clause-within : goal.numbered-requires-clause-within
numbered-requires-clause-within g c =
    let entries = c.in_ok-cited.cited.entries.items in
    let many = sym (length-map c.entries-count.result.now (λ (e : Bor g.row.T.Denot). e.now)) ∙ ap length c.entries-count.ensures ∙ length-map entries (λ (e : Bor g.row.T.Denot). e.now) in
    let long = given_long c.args.offset c.deref-2.result.now c.in_ok-numbers.numbers.items (length c.entries-count.result.now) (ap length c.deref-2.ensures.value ∙ c.in_ok-order.ensures.length) c.in_ok-numbers.ensures in
    subst₂ (λ (n : ℕ) (ps : List (List ℕ)). All (All (λ p. p < n)) ps) (sym (ap length c.deref-4.ensures.value ∙ long ∙ many)) (sym c.runs-indices.ensures) c.in_ok-cited.ensures.within

pub returns-clause-known : goal.returns-clause-known
returns-clause-known g c =
    let eq = g.T.PartialEq.eq in
    let answers = g.T.EntryLike.answers in
    let rs = c.args.requests.now in
    let index = index_among eq (entries_in rs) in
    let entries = c.in_ok-cited.cited.entries.items in
    let es = borrowed entries in
    let count = length c.entries-count.result.now in
    let many = sym (length-map c.entries-count.result.now (λ (e : Bor g.row.T.Denot). e.now)) ∙ ap length c.entries-count.ensures in
    let all = many ∙ length-map entries (λ (e : Bor g.row.T.Denot). e.now) in
    let at = c.runs-indices.ensures ∙ c.in_ok-cited.ensures.runs in
    let long = ap length c.deref-2.ensures.value ∙ c.in_ok-order.ensures.length in
    let numbers_many = given_long c.args.offset c.deref-2.result.now c.in_ok-numbers.numbers.items count long c.in_ok-numbers.ensures in
    known_is g.met.T.Eq.laws answers g.P.PartialEq.eq rs c.args.offset c.args.request.now es c.runs-indices.result.now c.deref-3.result.now c.in_ok-runs.runs.items c.deref.result.now c.deref-2.result.now c.deref-4.result.now count
    c.in_ok-cited.ensures.entries many
    (c.deref.ensures.value ∙ c.in_ok-wanted.ensures ∙ ap (λ (asked : List g.row.T.Denot). filter_map (λ e. position (eq e) es) asked) c.order.ensures) (c.deref-2.ensures.value ∙ c.in_ok-order.ensures.order) long at
    (ap (λ (fs : List (Vec CiteFacts Global)). facts_by_request_view fs) c.deref-3.ensures.value ∙ c.in_ok-facts.ensures.cites index answers at)
    (subst₂ (λ (n : ℕ) (ps : List (List ℕ)). All (All (λ p. p < n)) ps) (sym (ap length c.deref-4.ensures.value ∙ numbers_many ∙ all)) (sym c.runs-indices.ensures) c.in_ok-cited.ensures.within)
    c.in_ok-runs.ensures.cites (c.in_ok-numbers.ensures ∙ ap (λ (ns : List ℕ). Ok ns) (sym c.deref-4.ensures.value))
    ∙ ap (λ (o : List ℕ). Ok (record { count = count; order = o; cites = all_numbered_cites_view answers rs c.in_ok-runs.runs.items })) c.deref-2.ensures.value

pub returns-clause-runs : goal.returns-clause-runs
returns-clause-runs g c =
    cites_long c.in_ok-runs.runs.items c.runs-indices.result.now _ c.in_ok-runs.ensures.entries
    (indices_long (index_among g.T.PartialEq.eq (entries_in c.args.requests.now)) c.args.requests.now c.runs-indices.result.now (c.runs-indices.ensures ∙ c.in_ok-cited.ensures.runs))

pub returns-clause-within : goal.returns-clause-within
returns-clause-within g c =
    let entries = c.in_ok-cited.cited.entries.items in
    let many = sym (length-map c.entries-count.result.now (λ (e : Bor g.row.T.Denot). e.now)) ∙ ap length c.entries-count.ensures ∙ length-map entries (λ (e : Bor g.row.T.Denot). e.now) in
    cites_within (length c.entries-count.result.now) c.in_ok-runs.runs.items (runs c.runs-indices.result.now) c.in_ok-runs.ensures.entries
    (subst₂ (λ (n : ℕ) (ps : List (List ℕ)). All (All (λ p. p < n)) ps) (sym many) (sym c.runs-indices.ensures) c.in_ok-cited.ensures.within)
