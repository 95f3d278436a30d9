use Rattle.std.proofs.Common.{◌≡◌, List, sym, subst}
use Rattle.std.specs.Prelude.{IfOk}
use Rattle.std.specs.Option.{option_map}
use Rattle.laws.specs.Results.{Gives}
use Rattle.driver_requests.specs.Errors.{overflow_of}
use Rattle.driver_requests.specs.declared.request.CitationRequest.{CitationRequest}
use Rattle.driver.specs.Finish.{finish, keys_in}
use Rattle.driver.specs.RenderedViews.{keys_view, rendered_view}
use Rattle.driver_rounds.specs.Views.{bibliography_context_of, document_view}
use Rattle.driver.specs.declared.rendered.Rendered.{Rendered}
use Rattle.driver.proofs.DocumentsAlike.{alike_answers}
use Rattle.driver.proofs.driver.BibliographyDriver.finish.Goals as goal

pub returns-clause-rendered : goal.returns-clause-rendered
returns-clause-rendered g c =
    subst (λ (rs : List (CitationRequest g.row.T.Denot g.row.P.Denot)). Gives overflow_of rendered_view c.finish_requests.result (finish g.P.PartialEq.eq (document_view g.T.PartialEq.eq g.T.EntryLike.answers rs c.args.self.offset c.args.request)))
    c.as_slice.ensures.value c.finish_requests.ensures.rendered

pub returns-clause-keys : goal.returns-clause-keys
returns-clause-keys g c =
    subst
    (λ (rs : List (CitationRequest g.row.T.Denot g.row.P.Denot)).
    IfOk c.finish_requests.result (λ (r : Rendered). option_map keys_view r.bibliography ≡ option_map (λ s. keys_in (document_view g.T.PartialEq.eq g.T.EntryLike.answers rs c.args.self.offset c.args.request)) (bibliography_context_of c.args.request).style.bibliography))
    c.as_slice.ensures.value c.finish_requests.ensures.keys

pub returns-clause-alike : goal.returns-clause-alike
returns-clause-alike g c = λ others alike.
    subst (Gives overflow_of rendered_view c.finish_requests.result) (sym (alike_answers others g.P.PartialEq.eq (document_view g.T.PartialEq.eq g.T.EntryLike.answers c.args.self.citations.items c.args.self.offset c.args.request) alike)) (returns-clause-rendered g c)
