use Rattle.std.proofs.Common.{◌≡◌, ◌+◌, drop, map, sym, ap, subst, ◌∙◌, arith, rules, Result, Err, Vec}
use Rattle.std.specs.Global.{Global}
use Rattle.std.proofs.lemmas.List.{drop_all}
use Rattle.literature_entries.specs.declared.entry.Entry.{Entry}
use Rattle.driver_requests.specs.declared.request.CitationRequest.{CitationRequest}
use Rattle.cite_markers.specs.Views.{piece_view, document_view}
use Rattle.cite_requests.specs.Answers.{Gives}
use Rattle.cite_requests.specs.Asked.{asked_request_view, requests_after, requests_asked}
use Rattle.cite_requests.specs.Requests.{OwnLocator}
use Rattle.cite_order.specs.Views.{context_view}
use Rattle.cite_csl.specs.Views.{cited_view}
use Rattle.cite_requests.specs.declared.error.CiteError.{CiteError}
use Rattle.cite_requests.proofs.AnswersWeaker.{refused_weaker}
use Rattle.cite_requests.proofs.RequestsSteps.{goes_on, fails, ends}
use Rattle.cite_requests.proofs.StepsAfter.{at_view}
use Rattle.cite_csl.proofs.requests.marker_requests.Goals as goal

pub loop-piece-preserved : goal.loop-piece-preserved
loop-piece-preserved c =
    let works = cited_view c.args.works in
    let x = context_view c.args.setting in
    let i = c.loop-piece.piece-index in
    let xs = c.args.document.now.pieces.items in
    let done = map asked_request_view c.loop-piece.requests.items in
    let all = requests_asked works x (document_view c.args.document.now) in
    let cut = at_view piece_view (requests_after works x done) c.deref-piece-items.result.now xs i c.piece-item.result c.deref-piece-items.ensures.value c.loop-piece-test.true c.piece-item.is in
    goes_on works x done (piece_view c.piece-item.result) (map piece_view (drop (i + 1) xs)) (map asked_request_view c.push_request.new.requests.items) all (sym cut ∙ c.loop-piece.invariant) c.in_ok-push_request.ensures

pub returns-in_err-push_request : goal.returns-in_err-push_request
returns-in_err-push_request c =
    let works = cited_view c.args.works in
    let x = context_view c.args.setting in
    let i = c.loop-piece.piece-index in
    let xs = c.args.document.now.pieces.items in
    let done = map asked_request_view c.loop-piece.requests.items in
    let all = requests_asked works x (document_view c.args.document.now) in
    let cut = at_view piece_view (requests_after works x done) c.deref-piece-items.result.now xs i c.piece-item.result c.deref-piece-items.ensures.value c.loop-piece-test.true c.piece-item.is in
    let is : c.from_residual.result ≡ Err c.in_err-push_request.field-0.0 = search rules in
    subst (λ (r : Result (Vec (CitationRequest Entry OwnLocator) Global) CiteError). Gives (λ (v : Vec (CitationRequest Entry OwnLocator) Global). map asked_request_view v.items) r all) (sym is)
    (refused_weaker c.in_err-push_request.field-0.0 _ (λ a. all ≡ a)
    (λ r h. fails works x done (piece_view c.piece-item.result) (map piece_view (drop (i + 1) xs)) r all (sym cut ∙ c.loop-piece.invariant) h) c.in_err-push_request.ensures)

pub returns : goal.returns
returns c =
    let works = cited_view c.args.works in
    let x = context_view c.args.setting in
    let xs = c.args.document.now.pieces.items in
    ends works x (map asked_request_view c.loop-piece.requests.items) (map piece_view (drop c.loop-piece.piece-index xs)) (requests_asked works x (document_view c.args.document.now)) c.loop-piece.invariant
    (ap (map piece_view) (drop_all c.loop-piece.piece-index xs (omega (arith, c.loop-piece-test.false, c.deref-piece-items.ensures.len))))
