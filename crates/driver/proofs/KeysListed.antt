-- The keys of the items of a bibliography, where equal entries answer alike.
use Rattle.std.proofs.Common.{◌≡◌, ℕ, Bool, true, true≢false, is_some, find, List, [], ◌∷◌, ◌++◌, append_assoc, ◌||◌, false, map, refl, sym, ap, ◌∙◌, Option, Some, None}
use Rattle.std.specs.Cmp.{IsEquivalence}
use Rattle.std.specs.List.{AllByRecursion, flat_map, list_any, slice_get}
use Rattle.std.specs.Option.{option_and_then, option_map}
use Rattle.std.proofs.lemmas.List.Folds.{find_at, list_any-append}
use Rattle.rendering_entries.specs.Answers.{Answers}
use Rattle.rendering_style.specs.Styles.{Bibliography}
use Rattle.driver_requests.specs.CitedEntries.{once, index_among}
use Rattle.driver_requests.specs.Requests.{Item, Request}
use Rattle.driver_requests.specs.Views.{entries_in, entry_of_item, item_view, request_view}
use Rattle.driver_requests.specs.declared.bibliography_request.BibliographyRequest.{BibliographyRequest}
use Rattle.driver_requests.specs.declared.item.CitationItem.{CitationItem}
use Rattle.driver_requests.specs.declared.request.CitationRequest.{CitationRequest}
use Rattle.driver_requests.proofs.Once.{once-any}
use Rattle.driver_rounds.specs.Documents.{Document, order_in}
use Rattle.driver.specs.FinalPrints.{listed_as}
use Rattle.driver.specs.Finish.{is_final_of, keys_in}
use Rattle.driver.specs.Stages.{finals_of, Final}
use Rattle.driver.specs.Listing.{key_first, key_printed, keys_first}
use Rattle.driver_rounds.specs.Views.{document_view}
use Rattle.driver.proofs.FinishStages.{and_then_map}
use Rattle.driver.proofs.ItemsOrder.{found_some}
use Rattle.driver.proofs.KeysFinals.{IsInTable, filter_map_same, found_all, key_final, keys_final}
use Rattle.driver.proofs.Members.{append_all, both_all, every_all, weaker_all}

-- each of the members that pass a test for themselves is among them
themselves_any : {E : Type 0} (eq : E → E → Bool) → ((e : E) → eq e e ≡ true) → (before es : List E) → AllByRecursion (λ e. list_any (eq e) (before ++ es) ≡ true) es
themselves_any eq own before [] = tt
themselves_any {E} eq own before (e ∷ es) = (
  list_any-append (eq e) before (e ∷ es) ∙ passed_here (list_any (eq e) before) (eq e e) (list_any (eq e) es) (own e),
  weaker_all (λ x. list_any (eq x) ((before ++ e ∷ []) ++ es) ≡ true) (λ x. list_any (eq x) (before ++ e ∷ es) ≡ true) (λ x h. ap (list_any (eq x)) (sym (append_assoc before (e ∷ []) es)) ∙ h) es (themselves_any eq own (before ++ e ∷ []) es),
)
  where
    passed_here : (a b c : Bool) → b ≡ true → (a || (b || c)) ≡ true
    passed_here true b c h = refl
    passed_here false b c h = ap (λ v. v || c) h

module _ {T P : Type 0} (eq : T → T → Bool) (laws : IsEquivalence eq) (answers : T → Answers) (alike : (a b : T) → eq a b ≡ true → answers a ≡ answers b) (rs : List (CitationRequest T P)) where
  -- what the entry at an index answers
  abbrev table : ℕ → Option Answers
  table index = option_map answers (slice_get (once eq (entries_in rs)) index)

  found_alike : (e : T) (o : Option T) → find (eq e) (once eq (entries_in rs)) ≡ o → is_some o ≡ true → option_map answers o ≡ Some (answers e)
  found_alike e None h some = absurd (true≢false (sym some))
  found_alike e (Some f) h some =
      let found = found_all (λ (x : T). Unit {0}) (eq e) (once eq (entries_in rs)) f (every_all (λ (x : T). Unit {0}) (λ x. tt) (once eq (entries_in rs))) h in
      ap (λ a. Some a) (sym (alike e f found.1))

  entry_in_table : (e : T) → list_any (eq e) (entries_in rs) ≡ true → table (index_among eq (entries_in rs) e) ≡ Some (answers e)
  entry_in_table e h =
      ap (option_map answers) (sym (find_at (eq e) (once eq (entries_in rs))))
      ∙ found_alike e (find (eq e) (once eq (entries_in rs))) refl (found_some (eq e) (once eq (entries_in rs)) ∙ once-any laws e (entries_in rs) ∙ h)

  items_in_table : (is : List (CitationItem T P)) → AllByRecursion (λ e. list_any (eq e) (entries_in rs) ≡ true) (map entry_of_item is)
      → AllByRecursion (λ (i : Item P). table i.entry.index ≡ Some i.entry.answers) (map (item_view (index_among eq (entries_in rs)) answers) is)
  items_in_table [] h = tt
  items_in_table (i ∷ is) h = (entry_in_table i.entry.now h.0, items_in_table is h.1)

  requests_in_table : (qs : List (CitationRequest T P)) → AllByRecursion (λ e. list_any (eq e) (entries_in rs) ≡ true) (entries_in qs)
      → AllByRecursion (λ (i : Item P). table i.entry.index ≡ Some i.entry.answers) (flat_map (λ (r : Request P). r.items) (map (request_view (index_among eq (entries_in rs)) answers) qs))
  requests_in_table [] h = tt
  requests_in_table (q ∷ qs) h =
      let two = both_all (λ e. list_any (eq e) (entries_in rs) ≡ true) (map entry_of_item q.items.items) (entries_in qs) h in
      append_all (λ (i : Item P). table i.entry.index ≡ Some i.entry.answers) (map (item_view (index_among eq (entries_in rs)) answers) q.items.items) (flat_map (λ (r : Request P). r.items) (map (request_view (index_among eq (entries_in rs)) answers) qs))
      (items_in_table q.items.items two.0) (requests_in_table qs two.1)

  module _ (offset : ℕ) (request : BibliographyRequest T) (same : P → P → Bool) where
    abbrev document : Document P
    document = document_view eq answers rs offset request

    document_in_table : AllByRecursion (IsInTable document table) (flat_map (λ (r : Request P). r.items) document.requests)
    document_in_table = requests_in_table rs (themselves_any eq laws.refl [] (entries_in rs))

    keys_by_first : (index : ℕ) (fs : List (Final P)) → key_first document.bibliography_context fs index ≡ option_and_then (key_final document table) (find (is_final_of index) fs)
    keys_by_first index fs = sym (and_then_map (key_printed document.bibliography_context) (listed_as {P = P}) (find (is_final_of index) fs))

    keys_where : (b : Option Bibliography) → document.bibliography_context.style.bibliography ≡ b → option_map (λ s. keys_first document.bibliography_context (finals_of same document) (order_in document)) b ≡ option_map (λ s. keys_in document) b
    keys_where None e = refl
    keys_where (Some b) e =
        ap (λ ks. Some ks)
        (filter_map_same (key_first document.bibliography_context (finals_of same document)) (λ index. option_and_then (key_final document table) (find (is_final_of index) (finals_of same document))) (order_in document)
        (every_all (λ index. key_first document.bibliography_context (finals_of same document) index ≡ option_and_then (key_final document table) (find (is_final_of index) (finals_of same document))) (λ index. keys_by_first index (finals_of same document)) (order_in document))
        ∙ keys_final document table document_in_table same b e)

    -- the keys of the entries that the bibliography prints are those of the cited entries
    pub keys_are : option_map (λ s. keys_first document.bibliography_context (finals_of same document) (order_in document)) document.bibliography_context.style.bibliography ≡ option_map (λ s. keys_in document) document.bibliography_context.style.bibliography
    keys_are = keys_where document.bibliography_context.style.bibliography refl
