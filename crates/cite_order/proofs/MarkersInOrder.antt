-- Requests whose items are in order are those of markers whose cites are in order.
use Rattle.std.proofs.Common.{◌≡◌, ℕ, ◌+◌, All, List, [], ◌∷◌, ◌++◌, map, refl, sym, ap, ◌∙◌}
use Rattle.std.specs.Option.{option_map}
use Rattle.std.specs.List.{enumerate_from}
use Rattle.std.proofs.lemmas.List.Elements.{All-nil, All-cons, All-head, All-tail, All-append}
use Rattle.std.proofs.lemmas.Simd.{map-map}
use Rattle.literature_entries.specs.EntriesData.{EntryData, entry_view}
use Rattle.literature_entries.specs.declared.entry.Entry.{Entry}
use Rattle.rendering_context.specs.Contexts.{StyleContext}
use Rattle.rendering_entries.specs.Answers.{Answers}
use Rattle.rendering_entries.specs.Library.{answers_of}
use Rattle.rendering_sorting.specs.Keys.{Part, key_cmp}
use Rattle.rendering_style.specs.Styles.{Style}
use Rattle.driver_requests.specs.Requests.{plain_locator}
use Rattle.driver_requests.specs.Views.{Parts, parts_of, entries_in, entries_of, entry_of_item}
use Rattle.driver_requests.specs.declared.item.CitationItem.{CitationItem}
use Rattle.driver_requests.specs.declared.request.CitationRequest.{CitationRequest}
use Rattle.driver_order.specs.EntryKeys.{citation_keys}
use Rattle.driver_order.specs.Ordered.{ordered_by}
use Rattle.driver_order.specs.Sorted.{RequestParts, item_keys, items_in_order, request_in_order, request_parts}
use Rattle.sorting.proofs.MappedSorts.{map-sorted}
use Rattle.cite_requests.specs.Asked.{AskedItem, AskedRequest, asked_item, asked_request, asked_request_view, item_from}
use Rattle.cite_requests.specs.Markers.{CitedWork}
use Rattle.cite_requests.specs.Requests.{OwnLocator, works_in}
use Rattle.cite_order.specs.Order.{cite_keys, markers_in_order}
use Rattle.sorting.proofs.Sorts.{sorted_all, sorted_agrees}

-- a request by the works of its items
abbrev pub requested : RequestParts Entry OwnLocator → AskedRequest
requested r = record { context = r.context; note_number = r.note_number; items = map item_from r.items }

item_is_requested : (r : CitationRequest Entry OwnLocator) → requested (request_parts r) ≡ asked_request_view r
item_is_requested r = λ i. record (asked_request_view r) { items = map-map item_from parts_of r.items.items i }

pub all_requested : (rs : List (CitationRequest Entry OwnLocator)) → map requested (map request_parts rs) ≡ map asked_request_view rs
all_requested [] = refl
all_requested (r ∷ rs) = λ i. item_is_requested r i ∷ all_requested rs i

-- the keys of an item that is asked for, where works have numbers
abbrev asked_keys : StyleContext → (EntryData → ℕ) → AskedItem → List Part
asked_keys x own i = citation_keys x (answers_of i.work) (own i.work) (option_map plain_locator i.locator)

-- a request with its items in order
abbrev pub sorted_asked : Style → (EntryData → ℕ) → AskedRequest → AskedRequest
sorted_asked sorting own a = record a { items = ordered_by (asked_keys (record a.context { style = sorting }) own) a.items }

-- the parts of what holds of a list
module _ {X : Type 0} (P : X → Type 0) where
  first_all : (xs ys : List X) → All P (xs ++ ys) → All P xs
  first_all [] ys h = All-nil P
  first_all (x ∷ xs) ys h = All-cons P x xs (All-head P x (xs ++ ys) h) (first_all xs ys (All-tail P x (xs ++ ys) h))

  second_all : (xs ys : List X) → All P (xs ++ ys) → All P ys
  second_all [] ys h = h
  second_all (x ∷ xs) ys h = second_all xs ys (All-tail P x (xs ++ ys) h)

module _ (sorting : Style) (number : Entry → ℕ) (own : EntryData → ℕ) where
  -- the number of an entry is that of its work
  abbrev pub IsNumbered : Entry → Type 0
  IsNumbered e = number e ≡ own (entry_view e)

  abbrev IsNumberedItem : Parts Entry OwnLocator → Type 0
  IsNumberedItem i = IsNumbered i.entry

  abbrev entry_answers : Entry → Answers
  entry_answers e = answers_of (entry_view e)

  items_numbered : (is : List (CitationItem Entry OwnLocator)) → All IsNumbered (map entry_of_item is) → All IsNumberedItem (map parts_of is)
  items_numbered [] h = All-nil IsNumberedItem
  items_numbered (i ∷ is) h =
      All-cons IsNumberedItem (parts_of i) (map parts_of is) (All-head IsNumbered (entry_of_item i) (map entry_of_item is) h)
      (items_numbered is (All-tail IsNumbered (entry_of_item i) (map entry_of_item is) h))

  items_sorted : (x : StyleContext) (is : List (Parts Entry OwnLocator)) → All IsNumberedItem is
      → map item_from (items_in_order x entry_answers number is) ≡ ordered_by (asked_keys x own) (map item_from is)
  items_sorted x is h =
      let keys : AskedItem → List Part = asked_keys x own in
      let theirs : Parts Entry OwnLocator → List Part = item_keys x entry_answers number in
      let locators : Parts Entry OwnLocator → _ = λ i. option_map plain_locator i.locator in
      let same : (i : Parts Entry OwnLocator) → IsNumberedItem i → theirs i ≡ keys (item_from i) = λ i n. ap (λ (k : ℕ). citation_keys x (entry_answers i.entry) k (locators i)) n in
      ap (map item_from)
      (sorted_agrees IsNumberedItem (λ i j. key_cmp (theirs i) (theirs j)) (λ i j. key_cmp (keys (item_from i)) (keys (item_from j))) (λ i j m n. λ k. key_cmp (same i m k) (same j n k)) is h)
      ∙ map-sorted item_from (λ i j. key_cmp (keys (item_from i)) (keys (item_from j))) (λ i j. key_cmp (keys i) (keys j)) (λ i j. refl) is

  request_sorted : (r : CitationRequest Entry OwnLocator) → All IsNumbered (entries_of r)
      → requested (request_in_order sorting entry_answers number (request_parts r)) ≡ sorted_asked sorting own (requested (request_parts r))
  request_sorted r h =
      let ordered = items_sorted (record (request_parts r).context { style = sorting }) (map parts_of r.items.items) (items_numbered r.items.items h) in
      λ i. record (requested (request_parts r)) { items = ordered i }

  pub requests_sorted : (rs : List (CitationRequest Entry OwnLocator)) → All IsNumbered (entries_in rs)
      → map requested (map (request_in_order sorting entry_answers number) (map request_parts rs)) ≡ map (sorted_asked sorting own) (map requested (map request_parts rs))
  requests_sorted [] h = refl
  requests_sorted (r ∷ rs) h =
      let first = request_sorted r (first_all IsNumbered (entries_of r) (entries_in rs) h) in
      let rest = requests_sorted rs (second_all IsNumbered (entries_of r) (entries_in rs) h) in
      λ i. first i ∷ rest i

  -- the requests of markers whose cites are in order
  cites_sorted : (x : StyleContext) (cs : List CitedWork) → ordered_by (asked_keys x own) (map asked_item cs) ≡ map asked_item (ordered_by (cite_keys x own) cs)
  cites_sorted x cs =
      sym (map-sorted asked_item (λ c d. key_cmp (cite_keys x own c) (cite_keys x own d)) (λ i j. key_cmp (asked_keys x own i) (asked_keys x own j)) (λ c d. refl) cs)

  pub markers_sorted : (x : StyleContext) (n : ℕ) (ms : List (List CitedWork))
      → map (sorted_asked sorting own) (map (asked_request x) (enumerate_from n ms)) ≡ map (asked_request x) (enumerate_from n (markers_in_order (record x { style = sorting }) own ms))
  markers_sorted x n [] = refl
  markers_sorted x n (m ∷ ms) =
      let first = cites_sorted (record x { style = sorting }) m in
      let rest = markers_sorted x (n + 1) ms in
      λ i. record (asked_request x (n, m)) { items = first i } ∷ rest i

-- what holds of the works of markers holds of them in order
module _ (P : EntryData → Type 0) where
  abbrev OfCite : CitedWork → Type 0
  OfCite c = P c.work

  of_cites : (cs : List CitedWork) → All P (map (λ c. c.work) cs) → All OfCite cs
  of_cites [] h = All-nil OfCite
  of_cites (c ∷ cs) h = All-cons OfCite c cs (All-head P c.work (map (λ d. d.work) cs) h) (of_cites cs (All-tail P c.work (map (λ d. d.work) cs) h))

  of_works : (cs : List CitedWork) → All OfCite cs → All P (map (λ c. c.work) cs)
  of_works [] h = All-nil P
  of_works (c ∷ cs) h = All-cons P c.work (map (λ d. d.work) cs) (All-head OfCite c cs h) (of_works cs (All-tail OfCite c cs h))

  pub works_sorted : (x : StyleContext) (own : EntryData → ℕ) (ms : List (List CitedWork)) → All P (works_in ms) → All P (works_in (markers_in_order x own ms))
  works_sorted x own [] h = h
  works_sorted x own (m ∷ ms) h =
      let works = map (λ (c : CitedWork). c.work) m in
      let first = sorted_all OfCite (λ c d. key_cmp (cite_keys x own c) (cite_keys x own d)) m (of_cites m (first_all P works (works_in ms) h)) in
      let rest = works_sorted x own ms (second_all P works (works_in ms) h) in
      All-append P (map (λ (c : CitedWork). c.work) (ordered_by (cite_keys x own) m)) (works_in (markers_in_order x own ms)) (of_works (ordered_by (cite_keys x own) m) first) rest
