-- Requests of the code are those that are asked for, once each entry has its index among those that are cited.
use Rattle.std.proofs.Common.{◌≡◌, ℕ, ◌+◌, List, [], ◌∷◌, ◌++◌, map, refl, ap, ◌∙◌}
use Rattle.std.specs.List.{flat_map, enumerate_from}
use Rattle.literature_entries.specs.EntriesData.{EntryData, entry_view}
use Rattle.literature_entries.specs.declared.entry.Entry.{Entry}
use Rattle.rendering_entries.specs.Library.{answers_of}
use Rattle.rendering_context.specs.Contexts.{StyleContext}
use Rattle.driver_requests.specs.CitedEntries.{index_among}
use Rattle.driver_requests.specs.Requests.{Item, Request}
use Rattle.driver_requests.specs.Views.{entries_in, entries_of, item_view}
use Rattle.driver_requests.specs.declared.item.CitationItem.{CitationItem}
use Rattle.driver_requests.specs.declared.request.CitationRequest.{CitationRequest}
use Rattle.cite_requests.specs.Asked.{AskedItem, AskedRequest, asked_item, asked_request, asked_item_view, asked_request_view}
use Rattle.cite_requests.specs.Markers.{CitedWork}
use Rattle.cite_requests.specs.Requests.{OwnLocator, item_of, request_of, works_in}
use Rattle.cite_requests.specs.Works.{is_same}

-- an item and a request, where each work has an index
abbrev pub indexed_item : (EntryData → ℕ) → AskedItem → Item OwnLocator
indexed_item index i = record { entry = record { index = index i.work; answers = answers_of i.work }; locator = i.locator; is_hidden = i.is_hidden; purpose = i.purpose }

abbrev pub indexed_request : (EntryData → ℕ) → AskedRequest → Request OwnLocator
indexed_request index r = record { context = r.context; note_number = r.note_number; items = map (indexed_item index) r.items }

-- the works of asked requests
abbrev pub asked_works : List AskedRequest → List EntryData
asked_works rs = flat_map (λ r. map (λ i. i.work) r.items) rs

items_works : (cs : List CitedWork) → map (λ i. i.work) (map asked_item cs) ≡ map (λ c. c.work) cs
items_works [] = refl
items_works (c ∷ cs) = ap (λ (ws : List EntryData). c.work ∷ ws) (items_works cs)

pub works_asked : (x : StyleContext) (n : ℕ) (ms : List (List CitedWork)) → asked_works (map (asked_request x) (enumerate_from n ms)) ≡ works_in ms
works_asked x n [] = refl
works_asked x n (m ∷ ms) = λ i. items_works m i ++ works_asked x (n + 1) ms i

indexed_items : (cited : List EntryData) (cs : List CitedWork) → map (indexed_item (index_among is_same cited)) (map asked_item cs) ≡ map (item_of cited) cs
indexed_items cited [] = refl
indexed_items cited (c ∷ cs) = ap (λ (is : List (Item OwnLocator)). item_of cited c ∷ is) (indexed_items cited cs)

pub requests_indexed : (x : StyleContext) (cited : List EntryData) (n : ℕ) (ms : List (List CitedWork))
    → map (indexed_request (index_among is_same cited)) (map (asked_request x) (enumerate_from n ms)) ≡ map (request_of x cited) (enumerate_from n ms)
requests_indexed x cited n [] = refl
requests_indexed x cited n (m ∷ ms) = λ i. record (request_of x cited (n, m)) { items = indexed_items cited m i } ∷ requests_indexed x cited (n + 1) ms i

-- the entries of requests are the works that are asked for
items_entries : (is : List (CitationItem Entry OwnLocator)) → map entry_view (map (λ i. i.entry.now) is) ≡ map (λ i. i.work) (map asked_item_view is)
items_entries [] = refl
items_entries (i ∷ is) = ap (λ (ws : List EntryData). entry_view i.entry.now ∷ ws) (items_entries is)

map_joined : (es fs : List Entry) → map entry_view (es ++ fs) ≡ map entry_view es ++ map entry_view fs
map_joined [] fs = refl
map_joined (e ∷ es) fs = ap (λ (ws : List EntryData). entry_view e ∷ ws) (map_joined es fs)

pub entries_asked : (rs : List (CitationRequest Entry OwnLocator)) → map entry_view (entries_in rs) ≡ asked_works (map asked_request_view rs)
entries_asked [] = refl
entries_asked (r ∷ rs) = map_joined (entries_of r) (entries_in rs) ∙ (λ i. items_entries r.items.items i ++ entries_asked rs i)

-- entries have the indices of their works
abbrev pub AreAt : (Entry → ℕ) → (EntryData → ℕ) → List Entry → Type 0
AreAt index own [] = Unit {0}
AreAt index own (e ∷ es) = (index e ≡ own (entry_view e)) × AreAt index own es

-- an item of the code, where its entry has the index of its work
pub items_by : (index : Entry → ℕ) (own : EntryData → ℕ) (is : List (CitationItem Entry OwnLocator)) → AreAt index own (map (λ i. i.entry.now) is)
    → map (item_view index (λ e. answers_of (entry_view e))) is ≡ map (indexed_item own) (map asked_item_view is)
items_by index own [] h = refl
items_by index own (i ∷ is) h = λ k. record (indexed_item own (asked_item_view i)) { entry = record { index = h.0 k; answers = answers_of (entry_view i.entry.now) } } ∷ items_by index own is h.1 k
