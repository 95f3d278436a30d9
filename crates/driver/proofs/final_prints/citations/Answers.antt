use Rattle.std.proofs.Common.{◌≡◌, ◌+◌, [], ◌∷◌, length, map, drop, fold, option_map, None, refl, sym, ap, ◌∙◌, arith}
use Rattle.std.proofs.lemmas.List.{map-append}
use Rattle.rendering_context.specs.Views.{state_view}
use Rattle.driver_names.specs.Views.{printed_view}
use Rattle.driver_requests.specs.Views.{request_view}
use Rattle.driver_rounds.specs.CitesInStep.{request_cites}
use Rattle.driver.specs.FinalPrints.{cited_view, cited_with, finals_from, firsts, last_cite_view, listed_as, listed_view, listed_with}
use Rattle.driver.specs.RenderedViews.{rendered_citation_view}
use Rattle.driver.specs.Printing.{final_states_view}
use Rattle.driver_rounds.specs.FirstPrints.{first_print, flattened}
use Rattle.driver_rounds.specs.Views.{printed_by_states, numbered_cites_view, all_numbered_cites_view, usage_of}
use Rattle.driver_rounds.proofs.CitationsLoop.{enough_plain, enough_view, left_size, own_low, plain_parts, view_parts}
use Rattle.driver.proofs.CitationsPrints.{own_prints}
use Rattle.driver.proofs.FinalPrintsListed.{listed_all, none_view}
use Rattle.driver.proofs.FinalPrintsRuns.{citations_are, listed_are}
use Rattle.driver.proofs.FinalPrintsSteps.{cited_one, fold_ends, fold_more, prints_end, with_prints}
use Rattle.driver.proofs.final_prints.citations.Goals as goal
use Rattle.driver.proofs.final_prints.citations.Given.{Over}

pub split_at_mut-own_printed-requires : goal.split_at_mut-own_printed-requires
split_at_mut-own_printed-requires g c =
    let own = c.request-own.ensures in
    enough_view g.T.EntryLike.answers c.args.cites c.request-own.result c.loop-index.index c.requires.printed.in_step c.loop-index-test.true own.request own.run printed_view (printed_by_states (map state_view c.args.entry_states.states.now)) c.loop-index.left.now
    c.loop-index.invariant.printed

pub split_at-requires : goal.split_at-requires
split_at-requires g c =
    let own = c.request-own.ensures in
    enough_plain g.T.EntryLike.answers c.args.cites c.request-own.result c.loop-index.index c.requires.printed.in_step c.loop-index-test.true own.request own.run usage_of c.loop-index.usages.now c.loop-index.invariant.usages

pub request_citation-requires-clause-printing : goal.request_citation-requires-clause-printing
request_citation-requires-clause-printing g c =
    let answers = g.T.EntryLike.answers in
    let cites = c.request-own.result in
    let own = c.request-own.ensures in
    record {
      in_step = own.in_step;
      within = own_low answers c.args.cites cites c.loop-index.index c.requires.printed.in_step c.loop-index-test.true own.request own.run (length c.args.entry_states.states.now) c.requires.printed.within;
      usages = c.split_at.ensures.front
          ∙ (plain_parts answers c.args.cites cites c.loop-index.index c.requires.printed.in_step c.loop-index-test.true own.request own.run usage_of c.loop-index.usages.now c.loop-index.invariant.usages).0
          ∙ ap (λ x. map usage_of (numbered_cites_view answers x cites.request.now.items.items cites.run.now)) (sym own.in_step.context);
      style = ap (λ s. s.citation) (c.parts.ensures.style ∙ c.style.ensures);
    }

pub request_citation-requires-clause-printed : goal.request_citation-requires-clause-printed
request_citation-requires-clause-printed g c =
    let own = c.request-own.ensures in
    ap (map printed_view) c.split_at_mut-own_printed.ensures.front
    ∙ (view_parts g.T.EntryLike.answers c.args.cites c.request-own.result c.loop-index.index c.requires.printed.in_step c.loop-index-test.true own.request own.run printed_view (printed_by_states (map state_view c.args.entry_states.states.now)) c.loop-index.left.now
    c.loop-index.invariant.printed).0

pub loop-index-preserved : goal.loop-index-preserved
loop-index-preserved g c =
    let answers = g.T.EntryLike.answers in
    let cites = c.args.cites in
    let own = c.request-own.result in
    let n = c.loop-index.index in
    let in_step = c.requires.printed.in_step in
    let less = c.loop-index-test.true in
    let request = c.request-own.ensures.request in
    let run = c.request-own.ensures.run in
    let r = own.request.now in
    let states = map state_view c.args.entry_states.states.now in
    let t = final_states_view c.args.entry_states in
    let view_of = map (option_map (listed_view answers states)) in
    let prints = map first_print (request_cites answers own) in
    let size = left_size answers cites own n in_step less request run in
    let whole = fold (cited_with g.P.PartialEq.eq t) (cited_view answers states [] c.args.listed.now None) (with_prints answers cites.requests.now cites.runs.now) in
    record {
      same = fold_more (cited_with g.P.PartialEq.eq t) (cited_view answers states c.loop-index.citations.items c.loop-index.listed c.loop-index.last) (cited_view answers states c.push.new.self.items c.request_citation.new.listed c.request_citation.new.last) whole
          (request_view (λ e. 0) answers r, prints) (with_prints answers (drop n cites.requests.now) (drop n cites.runs.now)) (with_prints answers (drop (n + 1) cites.requests.now) (drop (n + 1) cites.runs.now))
          (own_prints answers cites own n in_step less request run) c.loop-index.invariant.same
          (cited_one g.P.PartialEq.eq t (request_view (λ e. 0) answers r) prints (map rendered_citation_view c.loop-index.citations.items) (map rendered_citation_view c.push.new.self.items) (rendered_citation_view c.in_ok-citation.citation) (view_of c.loop-index.listed) (view_of c.request_citation.new.listed)
          (last_cite_view answers c.loop-index.last) (last_cite_view answers c.request_citation.new.last) (ap (map rendered_citation_view) c.in_ok-push.ensures.items ∙ map-append rendered_citation_view c.loop-index.citations.items (c.in_ok-citation.citation ∷ [])) c.in_ok-citation.ensures.citation
          c.in_ok-citation.ensures.listed c.in_ok-citation.ensures.last);
      printed = ap (map printed_view) c.split_at_mut-own_printed.ensures.back ∙ (view_parts answers cites own n in_step less request run printed_view (printed_by_states states) c.loop-index.left.now c.loop-index.invariant.printed).1;
      usages = c.split_at.ensures.back ∙ (plain_parts answers cites own n in_step less request run usage_of c.loop-index.usages.now c.loop-index.invariant.usages).1;
      long = c.request_citation.auto.listed ∙ c.loop-index.invariant.long;
      effort = omega (arith, c.in_ok-citation.ensures.effort, c.loop-index.invariant.effort, size);
    }

-- what all requests come to
all_cited : (g : Over) (c : goal.After-drop-printed-2 g)
    → cited_view g.T.EntryLike.answers (map state_view c.args.entry_states.states.now) c.loop-index.citations.items c.loop-index.listed c.loop-index.last
    ≡ fold (cited_with g.P.PartialEq.eq (final_states_view c.args.entry_states)) (cited_view g.T.EntryLike.answers (map state_view c.args.entry_states.states.now) [] c.args.listed.now None) (with_prints g.T.EntryLike.answers c.args.cites.requests.now c.args.cites.runs.now)
all_cited g c =
    let answers = g.T.EntryLike.answers in
    let requests = c.args.cites.requests.now in
    let runs = c.args.cites.runs.now in
    let n = c.loop-index.index in
    let states = map state_view c.args.entry_states.states.now in
    let t = final_states_view c.args.entry_states in
    let whole = fold (cited_with g.P.PartialEq.eq t) (cited_view answers states [] c.args.listed.now None) (with_prints answers requests runs) in
    fold_ends (cited_with g.P.PartialEq.eq t) (cited_view answers states c.loop-index.citations.items c.loop-index.listed c.loop-index.last) whole (with_prints answers (drop n requests) (drop n runs)) (prints_end answers requests runs n c.loop-index-test.false) c.loop-index.invariant.same

pub returns-clause-citations : goal.returns-clause-citations
returns-clause-citations g c =
    let answers = g.T.EntryLike.answers in
    let before = map (option_map (listed_view answers (map state_view c.args.entry_states.states.now))) c.args.listed.now in
    λ at.
    ap (λ s. s.citations) (all_cited g c) ∙ citations_are g.P.PartialEq.eq answers (λ e. 0) at (final_states_view c.args.entry_states) before c.args.cites.requests.now (firsts (all_numbered_cites_view answers c.args.cites.requests.now c.args.cites.runs.now))

pub returns-clause-listed : goal.returns-clause-listed
returns-clause-listed g c =
    let answers = g.T.EntryLike.answers in
    let requests = c.args.cites.requests.now in
    let prints = firsts (all_numbered_cites_view answers requests c.args.cites.runs.now) in
    let view_of = option_map (listed_view answers (map state_view c.args.entry_states.states.now)) in
    let count = length c.args.entry_states.states.now in
    let t = final_states_view c.args.entry_states in
    λ at.
    let fs = flattened (finals_from g.P.PartialEq.eq t (map (request_view at answers) requests) prints) in
    ap (λ s. s.listed) (all_cited g c)
    ∙ listed_are g.P.PartialEq.eq answers (λ e. 0) at t (map view_of c.args.listed.now) requests prints
    ∙ ap (λ ls. fold listed_with ls (map listed_as fs)) (ap (map view_of) c.requires.unlisted ∙ none_view view_of refl count)
    ∙ listed_all fs count
