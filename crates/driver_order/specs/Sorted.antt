-- Requests with their items in the order of sort keys.
use Rattle.std.specs.Prelude.{ℕ, Bool, List, length, map, Option}
use Rattle.std.specs.List.{flat_map, range_with_len}
use Rattle.std.specs.Option.{option_map}
use Rattle.driver_requests.specs.CitedEntries.{index_among, indices_among, once}
use Rattle.driver_requests.specs.Order.{number_in, ordered}
use Rattle.driver_requests.specs.Requests.{Request, plain_locator}
use Rattle.driver_requests.specs.Views.{Parts, context_of, item_from, parts_of}
use Rattle.driver_requests.specs.declared.request.CitationRequest.{CitationRequest}
use Rattle.rendering_context.specs.Contexts.{StyleContext}
use Rattle.rendering_entries.specs.Answers.{Answers}
use Rattle.rendering_style.specs.Styles.{Style}
use Rattle.rendering_sorting.specs.Keys.{Part}
use Rattle.driver_order.specs.EntryKeys.{citation_keys}
use Rattle.driver_order.specs.Ordered.{ordered_by}

-- A request: its style with the language that is asked for, the number of its note, and what its items are made of.
pub record RequestParts (T P : Type 0) : Type 0 where
  pub context : StyleContext
  pub note_number : Option ℕ
  pub items : List (Parts T P)

-- what a request is made of
abbrev pub request_parts : {T P : Type 0} → CitationRequest T P → RequestParts T P
request_parts r =
    record {
      context = context_of r;
      note_number = r.note_number;
      items = map parts_of r.items.items;
    }

-- the request that it is, where each entry has an index and answers
abbrev pub request_from : {T P : Type 0} → (T → ℕ) → (T → Answers) → RequestParts T P → Request P
request_from index answers r =
    record {
      context = r.context;
      note_number = r.note_number;
      items = map (item_from index answers) r.items;
    }

-- the entries that requests cite
abbrev pub cited_in : {T P : Type 0} → List (RequestParts T P) → List T
cited_in rs = flat_map (λ r. map (λ i. i.entry) r.items) rs

-- cited entries in the order of a bibliography that others come first in, by their indices among those that are cited
abbrev pub order_among : {T : Type 0} → (T → T → Bool) → Style → List T → List T → List ℕ
order_among same s first cited =
    let wanted = indices_among same cited first in
    ordered s.bibliography wanted (range_with_len 0 (length (once same cited)))

-- the number of an entry, from zero: its position in that order
abbrev pub number_among : {T : Type 0} → (T → T → Bool) → Style → List T → List T → T → ℕ
number_among same s first cited e =
    number_in 0 (order_among same s first cited) (index_among same cited e)

-- the keys of an item whose entry has a number
abbrev pub item_keys : {T P : Type 0} → StyleContext → (T → Answers) → (T → ℕ) → Parts T P
    → List Part
item_keys x answers number i =
    citation_keys x (answers i.entry) (number i.entry) (option_map plain_locator i.locator)

-- items in the order of their keys
abbrev pub items_in_order : {T P : Type 0} → StyleContext → (T → Answers) → (T → ℕ)
    → List (Parts T P) → List (Parts T P)
items_in_order x answers number items = ordered_by (item_keys x answers number) items

-- a request with its items in the order of their keys, which a style prints in the language of the request
abbrev pub request_in_order : {T P : Type 0} → Style → (T → Answers) → (T → ℕ) → RequestParts T P
    → RequestParts T P
request_in_order s answers number r =
    record r { items = items_in_order (record r.context { style = s }) answers number r.items }

-- requests with their items in the order of their keys, where these entries come first in the bibliography
abbrev pub requests_in_order : {T P : Type 0} → (T → T → Bool) → (T → Answers) → Style → List T
    → List (RequestParts T P) → List (RequestParts T P)
requests_in_order same answers s first rs =
    map (request_in_order s answers (number_among same s first (cited_in rs))) rs
