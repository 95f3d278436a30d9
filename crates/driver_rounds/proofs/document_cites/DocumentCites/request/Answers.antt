use Rattle.std.proofs.Common.{◌<◌, length, get_or, option_map, ap, sym, ◌∙◌, arith, Some, Vec}
use Rattle.std.specs.Global.{Global}
use Rattle.std.proofs.lemmas.Option.{slice_get-get_or, slice_get-map}
use Rattle.rendering.specs.Views.{style_context_view}
use Rattle.driver_requests.specs.Views.{context_of}
use Rattle.driver_requests.specs.declared.request.CitationRequest.{CitationRequest}
use Rattle.driver_rounds.specs.declared.cite.NumberedCite.{NumberedCite}
use Rattle.driver_rounds.proofs.RequestsFound.{element_view}
use Rattle.driver_rounds.proofs.RunsSteps.{runs_match, same_length}
use Rattle.driver_rounds.proofs.document_cites.DocumentCites.request.Goals as goal

pub bounds-self-index-3 : goal.bounds-self-index-3
bounds-self-index-3 g c = omega (arith, c.requires.index, runs_match c.args.self.runs.now c.args.self.requests.now c.requires.in_step.runs)

pub returns-clause-request : goal.returns-clause-request
returns-clause-request g c = slice_get-get_or c.args.self.requests.now c.args.index c.index-self-index.result c.requires.index

pub returns-clause-run : goal.returns-clause-run
returns-clause-run g c =
    let runs = c.args.self.runs.now in
    let n = c.args.index in
    let items = λ (v : Vec NumberedCite Global). v.items in
    let in_runs : n < length runs = omega (arith, c.requires.index, runs_match runs c.args.self.requests.now c.requires.in_step.runs) in
    slice_get-map items runs n ∙ ap (option_map items) (slice_get-get_or runs n c.index-self-index-3.result in_runs) ∙ ap (λ ks. Some ks) (sym c.as_slice.ensures.value)

pub returns-clause-in_step : goal.returns-clause-in_step
returns-clause-in_step g c =
    let requests = c.args.self.requests.now in
    let contexts = c.args.self.contexts.now in
    let runs = c.args.self.runs.now in
    let n = c.args.index in
    let less = c.requires.index in
    let r = get_or requests n c.index-self-index.result in
    let at = slice_get-get_or requests n c.index-self-index.result less in
    let in_contexts : n < length contexts = omega (arith, less, same_length style_context_view context_of contexts requests c.requires.in_step.contexts) in
    let in_runs : n < length runs = omega (arith, less, runs_match runs requests c.requires.in_step.runs) in
    record {
      context = element_view style_context_view context_of contexts requests n (get_or contexts n c.index-self-index-2.result) r c.requires.in_step.contexts (slice_get-get_or contexts n c.index-self-index-2.result in_contexts) at;
      run = ap length c.as_slice.ensures.value
          ∙ element_view (λ (v : Vec NumberedCite Global). length v.items) (λ (q : CitationRequest g.row.T.Denot g.row.P.Denot). length q.items.items) runs requests n (get_or runs n c.index-self-index-3.result) r c.requires.in_step.runs
          (slice_get-get_or runs n c.index-self-index-3.result in_runs) at;
    }
