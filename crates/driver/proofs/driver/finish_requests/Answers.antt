use Rattle.std.proofs.Common.{◌≡◌, ◌+◌, ◌≤◌, List, length, map, refl, sym, ap, subst, ◌∙◌, Result, Err, Vec}
use Rattle.std.specs.Global.{Global}
use Rattle.std.specs.Option.{option_map, option_map_or}
use Rattle.std.proofs.lemmas.Result.{IfOk-weaker, err_from_is_err_and}
use Rattle.laws.specs.Results.{Gives}
use Rattle.rendering.specs.Views.{style_context_view}
use Rattle.driver_requests.specs.CitedEntries.{index_among}
use Rattle.driver_requests.specs.Errors.{overflow_of}
use Rattle.driver_requests.specs.Views.{entries_in, request_view}
use Rattle.driver_requests.specs.declared.error.DriverError.{DriverError}
use Rattle.driver.specs.FinalPrints.{finals_from, firsts}
use Rattle.driver.specs.Finish.{effort_bound, finish, keys_in}
use Rattle.driver.specs.Listing.{keys_first, rendered_of}
use Rattle.driver.specs.RenderedViews.{keys_view, rendered_view}
use Rattle.driver_rounds.specs.Naming.{states_by}
use Rattle.driver_rounds.specs.Rounding.{AreWithin, round_states_view}
use Rattle.driver_rounds.specs.FirstPrints.{first_naming, flattened}
use Rattle.driver_rounds.specs.Views.{document_view, all_numbered_cites_view}
use Rattle.driver_rounds.specs.declared.cite.NumberedCite.{NumberedCite}
use Rattle.driver_rounds.proofs.NamingSteps.{named_lengths, named_within}
use Rattle.driver.specs.declared.rendered.Rendered.{Rendered}
use Rattle.driver.proofs.FinishRequests.{cites_known, cites_within, finish_known, keys_known, suffixes_fail, many_cited, named_given, order_within, prints_known}
use Rattle.driver.proofs.FinishStages.{back_gives, effort_is, named_many, naming_alike, runs_many}
use Rattle.driver.proofs.driver.finish_requests.Goals as goal

pub returns-in_err-entry_states-clause-rendered : goal.returns-in_err-entry_states-clause-rendered
returns-in_err-entry_states-clause-rendered g c =
    let named = named_given g.T.PartialEq.eq g.T.EntryLike.answers g.P.PartialEq.eq c.args.requests.now c.args.offset c.args.request.now c.in_ok-known.known c.in_ok-known.ensures.known c.deref-2.result.now c.deref-3.result.now c.in_ok-runs.runs.items c.deref-4.result.now
    c.lent.result c.in_ok-states.states c.deref-2.ensures.value c.deref-3.ensures.value c.deref-4.ensures.value c.lent.ensures c.in_ok-states.ensures.states c.in_ok-runs.ensures in
    let p = err_from_is_err_and c.from_residual-in_err-entry_states.result c.from_residual-in_err-entry_states.ensures.1 in
    let is : c.from_residual-in_err-entry_states.result ≡ Err c.in_err-entry_states.field-0.0 = p.1 ∙ ap (λ (e : DriverError). Err e) p.2 in
    subst (λ (r : Result Rendered DriverError). Gives overflow_of rendered_view r (finish g.P.PartialEq.eq (document_view g.T.PartialEq.eq g.T.EntryLike.answers c.args.requests.now c.args.offset c.args.request.now))) (sym is)
    (suffixes_fail g.T.PartialEq.eq g.T.EntryLike.answers g.P.PartialEq.eq c.args.requests.now c.args.offset c.args.request.now c.in_ok-known.known c.in_ok-known.ensures.known c.deref-4.result.now named
    (overflow_of c.in_err-entry_states.field-0.0) c.in_err-entry_states.ensures.entry_states)

pub first_states-requires : goal.first_states-requires
first_states-requires g c = record {
  contexts = ap (map style_context_view) c.deref.ensures.value ∙ c.in_ok-contexts.ensures;
  runs = ap (λ (vs : List (Vec NumberedCite Global)). map (λ (v : Vec NumberedCite Global). length v.items) vs) c.deref-2.ensures.value ∙ c.in_ok-known.ensures.runs;
}

pub first_prints-requires : goal.first_prints-requires
first_prints-requires g c = record {
  contexts = ap (map style_context_view) c.deref.ensures.value ∙ c.in_ok-contexts.ensures;
  runs = ap (λ (vs : List (Vec NumberedCite Global)). map (λ (v : Vec NumberedCite Global). length v.items) vs) c.deref-4.ensures.value
      ∙ named_lengths (states_by c.lent.result) c.deref-3.result.now c.in_ok-runs.runs.items c.in_ok-runs.ensures
      ∙ ap (λ (vs : List (Vec NumberedCite Global)). map (λ (v : Vec NumberedCite Global). length v.items) vs) c.deref-3.ensures.value
      ∙ c.in_ok-known.ensures.runs;
}

pub disambiguated-requires-clause-in_step : goal.disambiguated-requires-clause-in_step
disambiguated-requires-clause-in_step g c = record {
  contexts = ap (map style_context_view) c.deref.ensures.value ∙ c.in_ok-contexts.ensures;
  runs = ap (λ (vs : List (Vec NumberedCite Global)). map (λ (v : Vec NumberedCite Global). length v.items) vs) c.deref-4.ensures.value
      ∙ named_lengths (states_by c.lent.result) c.deref-3.result.now c.in_ok-runs.runs.items c.in_ok-runs.ensures
      ∙ ap (λ (vs : List (Vec NumberedCite Global)). map (λ (v : Vec NumberedCite Global). length v.items) vs) c.deref-3.ensures.value
      ∙ c.in_ok-known.ensures.runs;
}

pub disambiguated-requires-clause-within : goal.disambiguated-requires-clause-within
disambiguated-requires-clause-within g c =
    subst (λ (us : List (Vec NumberedCite Global)). AreWithin c.in_ok-known.known.count us) (sym c.deref-4.ensures.value)
    (named_within c.in_ok-known.known.count (states_by c.lent.result) c.deref-3.result.now c.in_ok-runs.runs.items c.in_ok-runs.ensures (subst (λ (us : List (Vec NumberedCite Global)). AreWithin c.in_ok-known.known.count us) (sym c.deref-3.ensures.value) c.in_ok-known.ensures.within))

pub render-requires-clause-printed : goal.render-requires-clause-printed
render-requires-clause-printed g c =
    let named = named_given g.T.PartialEq.eq g.T.EntryLike.answers g.P.PartialEq.eq c.args.requests.now c.args.offset c.args.request.now c.in_ok-known.known c.in_ok-known.ensures.known c.deref-2.result.now c.deref-3.result.now c.in_ok-runs.runs.items c.deref-4.result.now
    c.lent.result c.in_ok-states.states c.deref-2.ensures.value c.deref-3.ensures.value c.deref-4.ensures.value c.lent.ensures c.in_ok-states.ensures.states c.in_ok-runs.ensures in
    let low = subst (λ (us : List (Vec NumberedCite Global)). AreWithin c.in_ok-known.known.count us) (sym c.deref-4.ensures.value)
    (named_within c.in_ok-known.known.count (states_by c.lent.result) c.deref-3.result.now c.in_ok-runs.runs.items c.in_ok-runs.ensures (subst (λ (us : List (Vec NumberedCite Global)). AreWithin c.in_ok-known.known.count us) (sym c.deref-3.ensures.value) c.in_ok-known.ensures.within)) in
    record {
      in_step = record {
        contexts = ap (map style_context_view) c.deref.ensures.value ∙ c.in_ok-contexts.ensures;
        runs = ap (λ (vs : List (Vec NumberedCite Global)). map (λ (v : Vec NumberedCite Global). length v.items) vs) c.deref-4.ensures.value
            ∙ named_lengths (states_by c.lent.result) c.deref-3.result.now c.in_ok-runs.runs.items c.in_ok-runs.ensures
            ∙ ap (λ (vs : List (Vec NumberedCite Global)). map (λ (v : Vec NumberedCite Global). length v.items) vs) c.deref-3.ensures.value
            ∙ c.in_ok-known.ensures.runs;
      };
      within = cites_within g.T.PartialEq.eq g.T.EntryLike.answers g.P.PartialEq.eq c.args.requests.now c.args.offset c.args.request.now c.in_ok-known.known c.in_ok-known.ensures.known c.deref-4.result.now named c.in_ok-entry_states.entry_states c.in_ok-entry_states.ensures.entry_states c.deref-4.result.now refl low;
      usages = c.deref-6.ensures.value ∙ c.in_ok-first.ensures.usages;
      printed = prints_known g.T.PartialEq.eq g.T.EntryLike.answers g.P.PartialEq.eq c.args.requests.now c.args.offset c.args.request.now c.in_ok-known.known c.in_ok-known.ensures.known c.deref-4.result.now named c.in_ok-entry_states.entry_states c.in_ok-entry_states.ensures.entry_states c.deref-4.result.now refl;
    }

pub render-requires-clause-order : goal.render-requires-clause-order
render-requires-clause-order g c =
    let named = named_given g.T.PartialEq.eq g.T.EntryLike.answers g.P.PartialEq.eq c.args.requests.now c.args.offset c.args.request.now c.in_ok-known.known c.in_ok-known.ensures.known c.deref-2.result.now c.deref-3.result.now c.in_ok-runs.runs.items c.deref-4.result.now
    c.lent.result c.in_ok-states.states c.deref-2.ensures.value c.deref-3.ensures.value c.deref-4.ensures.value c.lent.ensures c.in_ok-states.ensures.states c.in_ok-runs.ensures in
    order_within g.T.PartialEq.eq g.T.EntryLike.answers g.P.PartialEq.eq c.args.requests.now c.args.offset c.args.request.now c.in_ok-known.known c.in_ok-known.ensures.known c.deref-4.result.now named c.in_ok-entry_states.entry_states c.in_ok-entry_states.ensures.entry_states c.deref-5.result.now c.deref-5.ensures.value c.in_ok-known.ensures.order

pub returns-clause-rendered : goal.returns-clause-rendered
returns-clause-rendered g c =
    let answers = g.T.EntryLike.answers in
    let same = g.P.PartialEq.eq in
    let rs = c.args.requests.now in
    let d = document_view g.T.PartialEq.eq answers rs c.args.offset c.args.request.now in
    let named = named_given g.T.PartialEq.eq g.T.EntryLike.answers g.P.PartialEq.eq c.args.requests.now c.args.offset c.args.request.now c.in_ok-known.known c.in_ok-known.ensures.known c.deref-2.result.now c.deref-3.result.now c.in_ok-runs.runs.items c.deref-4.result.now
    c.lent.result c.in_ok-states.states c.deref-2.ensures.value c.deref-3.ensures.value c.deref-4.ensures.value c.lent.ensures c.in_ok-states.ensures.states c.in_ok-runs.ensures in
    back_gives overflow_of rendered_view c.render.result
    (rendered_of d.bibliography_context c.deref-5.result.now d.requests (finals_from same (round_states_view c.in_ok-entry_states.entry_states).0 d.requests (firsts (all_numbered_cites_view answers rs c.deref-4.result.now)))) (finish same d)
    (finish_known g.T.PartialEq.eq g.T.EntryLike.answers g.P.PartialEq.eq c.args.requests.now c.args.offset c.args.request.now c.in_ok-known.known c.in_ok-known.ensures.known c.deref-4.result.now named c.in_ok-entry_states.entry_states c.in_ok-entry_states.ensures.entry_states c.deref-4.result.now c.deref-5.result.now refl c.deref-5.ensures.value)
    (c.render.ensures.rendered (index_among g.T.PartialEq.eq (entries_in rs)))

pub returns-clause-keys : goal.returns-clause-keys
returns-clause-keys g c =
    let answers = g.T.EntryLike.answers in
    let same = g.P.PartialEq.eq in
    let rs = c.args.requests.now in
    let d = document_view g.T.PartialEq.eq answers rs c.args.offset c.args.request.now in
    let named = named_given g.T.PartialEq.eq g.T.EntryLike.answers g.P.PartialEq.eq c.args.requests.now c.args.offset c.args.request.now c.in_ok-known.known c.in_ok-known.ensures.known c.deref-2.result.now c.deref-3.result.now c.in_ok-runs.runs.items c.deref-4.result.now
    c.lent.result c.in_ok-states.states c.deref-2.ensures.value c.deref-3.ensures.value c.deref-4.ensures.value c.lent.ensures c.in_ok-states.ensures.states c.in_ok-runs.ensures in
    IfOk-weaker c.render.result
    (λ (r : Rendered). option_map keys_view r.bibliography ≡ option_map (λ s. keys_first d.bibliography_context (flattened (finals_from same (round_states_view c.in_ok-entry_states.entry_states).0 d.requests (firsts (all_numbered_cites_view answers rs c.deref-4.result.now)))) c.deref-5.result.now) d.bibliography_context.style.bibliography)
    (λ (r : Rendered). option_map keys_view r.bibliography ≡ option_map (λ s. keys_in d) d.bibliography_context.style.bibliography)
    (λ r h. h
    ∙ keys_known g.T.PartialEq.eq g.T.EntryLike.answers g.P.PartialEq.eq c.args.requests.now c.args.offset c.args.request.now c.in_ok-known.known c.in_ok-known.ensures.known c.deref-4.result.now named c.in_ok-entry_states.entry_states c.in_ok-entry_states.ensures.entry_states
    g.met.T.Eq.laws g.met.T.EntryLike.alike c.deref-4.result.now c.deref-5.result.now refl c.deref-5.ensures.value)
    (c.render.ensures.keys (index_among g.T.PartialEq.eq (entries_in rs)))

pub returns-clause-effort : goal.returns-clause-effort
returns-clause-effort g c =
    let answers = g.T.EntryLike.answers in
    let same = g.P.PartialEq.eq in
    let rs = c.args.requests.now in
    let d = document_view g.T.PartialEq.eq answers rs c.args.offset c.args.request.now in
    let named = named_given g.T.PartialEq.eq g.T.EntryLike.answers g.P.PartialEq.eq c.args.requests.now c.args.offset c.args.request.now c.in_ok-known.known c.in_ok-known.ensures.known c.deref-2.result.now c.deref-3.result.now c.in_ok-runs.runs.items c.deref-4.result.now
    c.lent.result c.in_ok-states.states c.deref-2.ensures.value c.deref-3.ensures.value c.deref-4.ensures.value c.lent.ensures c.in_ok-states.ensures.states c.in_ok-runs.ensures in
    let known = cites_known g.T.PartialEq.eq g.T.EntryLike.answers g.P.PartialEq.eq c.args.requests.now c.args.offset c.args.request.now c.in_ok-known.known c.in_ok-known.ensures.known in
    let many = many_cited g.T.PartialEq.eq g.T.EntryLike.answers g.P.PartialEq.eq c.args.requests.now c.args.offset c.args.request.now c.in_ok-known.known c.in_ok-known.ensures.known in
    let before = runs_many same d (all_numbered_cites_view answers rs c.deref-2.result.now) (known c.deref-2.result.now c.deref-2.ensures.value) in
    let count = named_many same d (all_numbered_cites_view answers rs c.deref-4.result.now) named in
    let cites = length (flattened (all_numbered_cites_view answers rs c.deref-4.result.now)) in
    IfOk-weaker c.render.result
    (λ (r : Rendered). r.effort ≤ c.disambiguated.new.effort + cites + option_map_or (λ s. length c.deref-5.result.now) d.bibliography_context.style.bibliography 0)
    (λ (r : Rendered). r.effort ≤ effort_bound d)
    (λ r h. effort_is d c.deref-5.result.now (first_naming (map (request_view {P = g.row.P.Denot} (λ e. 0) answers) rs)) _ c.first_states.new.effort c.first_prints.new.effort c.disambiguated.new.effort r.effort
    (length (flattened (all_numbered_cites_view answers rs c.deref-2.result.now))) cites cites cites c.default-effort.ensures before count count count (ap length c.deref-5.ensures.value ∙ c.in_ok-known.ensures.length ∙ sym many)
    (naming_alike answers (λ e. 0) (index_among g.T.PartialEq.eq (entries_in rs)) rs) c.in_ok-states.ensures.effort c.in_ok-first.ensures.effort c.in_ok-entry_states.ensures.effort h)
    c.render.ensures.effort
