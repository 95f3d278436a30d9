-- What a driver is asked by the request of the code.
use Rattle.std.proofs.Common.{◌≡◌, ℕ, Bool, List, [], ◌∷◌, map, None, refl, sym, ap, ◌∙◌, append-nil}
use Rattle.std.specs.Borrow.{Bor}
use Rattle.laws.specs.Borrowed.{borrowed}
use Rattle.literature_entries.specs.EntriesData.{entry_view}
use Rattle.literature_entries.specs.declared.entry.Entry.{Entry}
use Rattle.rendering_entries.specs.Answers.{Answers}
use Rattle.rendering_entries.specs.Library.{answers_of}
use Rattle.rendering_locale.specs.Locales.{Locale}
use Rattle.rendering_style.specs.Styles.{Style}
use Rattle.driver_requests.specs.CitedEntries.{index_among, indices_among}
use Rattle.driver_requests.specs.Requests.{Request}
use Rattle.driver_requests.specs.Views.{Parts, context_of, entries_in, entry_of_item, item_from, parts_of, request_view}
use Rattle.driver_requests.specs.declared.bibliography_request.BibliographyRequest.{BibliographyRequest}
use Rattle.driver_requests.specs.declared.item.CitationItem.{CitationItem}
use Rattle.driver_requests.specs.declared.request.CitationRequest.{CitationRequest}
use Rattle.driver.proofs.Maps.{map_map}
use Rattle.driver_rounds.specs.Views.{bibliography_context_of, document_view}
use Rattle.cite_requests.specs.Requests.{OwnLocator}
use Rattle.cite_uses.specs.Hidden.{context_in, hidden_document, hidden_parts, hidden_request}

abbrev answers : Entry → Answers
answers e = answers_of (entry_view e)

module _ (es : List (Bor Entry)) (is : List (CitationItem Entry OwnLocator)) (hidden : map parts_of is ≡ map (λ (e : Bor Entry). hidden_parts e.now) es) where
  -- what is made of the parts of items is made of the entries
  parts_are : {C : Type 0} (f : Parts Entry OwnLocator → C) → map (λ (i : CitationItem Entry OwnLocator). f (parts_of i)) is ≡ map (λ (x : Entry). f (hidden_parts x)) (borrowed es)
  parts_are f = sym (map_map f parts_of is) ∙ (ap (map f) hidden ∙ (map_map f (λ (e : Bor Entry). hidden_parts e.now) es ∙ sym (map_map (λ (x : Entry). f (hidden_parts x)) (λ (e : Bor Entry). e.now) es)))

  entries_are : map entry_of_item is ≡ borrowed es
  entries_are = parts_are (λ p. p.entry) ∙ same (borrowed es)
    where
      same : (xs : List Entry) → map (λ (x : Entry). x) xs ≡ xs
      same [] = refl
      same (x ∷ xs) = ap (λ ys. x ∷ ys) (same xs)

module _ (same : Entry → Entry → Bool) (style : Style) (locale : Locale) (es : List (Bor Entry)) (own : List (CitationRequest Entry OwnLocator)) (offset : ℕ) (request : CitationRequest Entry OwnLocator) (r : BibliographyRequest Entry)
    (one : own ≡ request ∷ []) (none : offset ≡ 0) (hidden : map parts_of request.items.items ≡ map (λ (e : Bor Entry). hidden_parts e.now) es)
    (context : context_of request ≡ context_in style locale) (number : request.note_number ≡ None)
    (listed : bibliography_context_of r ≡ context_in style locale) (order : borrowed r.order.now ≡ []) where
  cited : entries_in own ≡ borrowed es
  cited = ap entries_in one ∙ (append-nil (map entry_of_item request.items.items) ∙ entries_are es request.items.items hidden)

  request_is : request_view (index_among same (borrowed es)) answers request ≡ hidden_request same (context_in style locale) (borrowed es)
  request_is = λ i. record {
    context = context i;
    note_number = number i;
    items = parts_are es request.items.items hidden (item_from (index_among same (borrowed es)) answers) i;
  }

  requests_are : map (request_view (index_among same (entries_in own)) answers) own ≡ hidden_request same (context_in style locale) (borrowed es) ∷ []
  requests_are = ap (λ (xs : List Entry). map (request_view (index_among same xs) answers) own) cited
      ∙ (ap (map (request_view (index_among same (borrowed es)) answers)) one ∙ ap (λ (q : Request OwnLocator). q ∷ []) request_is)

  pub asks : document_view same (λ e. answers_of (entry_view e)) own offset r ≡ hidden_document same style locale (borrowed es)
  asks = λ i. record {
    requests = requests_are i;
    bibliography_context = listed i;
    wanted = indices_among same (entries_in own) (order i);
    offset = none i;
  }
