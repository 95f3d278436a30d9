-- What the driver of the code is asked.
use Rattle.std.proofs.Common.{◌≡◌, ℕ, Bool, List, map, Ok, Err, sym, ap, ◌∙◌}
use Rattle.laws.specs.Borrowed.{borrowed}
use Rattle.literature_entries.specs.EntriesData.{entry_view}
use Rattle.literature_entries.specs.declared.entry.Entry.{Entry}
use Rattle.rendering_entries.specs.Library.{answers_of}
use Rattle.rendering_context.specs.Contexts.{StyleContext}
use Rattle.driver_requests.specs.CitedEntries.{index_among, indices_among}
use Rattle.driver_requests.specs.Views.{entries_in, request_view}
use Rattle.driver_requests.specs.declared.bibliography_request.BibliographyRequest.{BibliographyRequest}
use Rattle.driver_requests.specs.declared.request.CitationRequest.{CitationRequest}
use Rattle.driver.specs.Finish.{Rendered, finish}
use Rattle.driver_rounds.specs.Views.{bibliography_context_of, document_view}
use Rattle.driver_requests.specs.Errors.{overflow}
use Rattle.cite.specs.Finished.{document_asked, finished}
use Rattle.cite_requests.specs.Requests.{OwnLocator, is_same_own}
use Rattle.cite_requests.specs.Stages as stages
use Rattle.cite_requests.specs.Stages.{refused_as}

module _ (same : Entry → Entry → Bool) (x : StyleContext) (own rs : List (CitationRequest Entry OwnLocator)) (offset : ℕ) (r : BibliographyRequest Entry) (es : List Entry)
    (requests : own ≡ rs) (none : offset ≡ 0) (context : bibliography_context_of r ≡ x) (order : borrowed r.order.now ≡ es) where
  asks : document_view same (λ e. answers_of (entry_view e)) own offset r ≡ document_asked same x rs es
  asks = λ i. record {
    requests = map (request_view (index_among same (entries_in (requests i))) (λ e. answers_of (entry_view e))) (requests i);
    bibliography_context = context i;
    wanted = indices_among same (entries_in (requests i)) (order i);
    offset = none i;
  }

  pub gives : (given : Rendered) → finish is_same_own (document_view same (λ e. answers_of (entry_view e)) own offset r) ≡ Ok given → finished same x rs es ≡ Ok given
  gives given is = ap (λ d. refused_as (λ _. stages.overflow) (finish is_same_own d)) (sym asks) ∙ ap (refused_as (λ _. stages.overflow)) is

  pub overflows : finish is_same_own (document_view same (λ e. answers_of (entry_view e)) own offset r) ≡ Err overflow → finished same x rs es ≡ Err stages.overflow
  overflows is = ap (λ d. refused_as (λ _. stages.overflow) (finish is_same_own d)) (sym asks) ∙ ap (refused_as (λ _. stages.overflow)) is
