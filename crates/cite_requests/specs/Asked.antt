-- Requests of markers before their entries have indices: what each cite cites and how.
use Rattle.std.specs.Prelude.{ℕ, ◌+◌, Bool, List, [], ◌∷◌, ◌++◌, map, length, Option, Some, Result, Ok}
use Rattle.std.specs.Option.{option_map}
use Rattle.literature_entries.specs.EntriesData.{EntryData, entry_view}
use Rattle.literature_entries.specs.declared.entry.Entry.{Entry}
use Rattle.laws.specs.Results.{◌>>=◌}
use Rattle.rendering_context.specs.Contexts.{StyleContext}
use Rattle.rendering_taxonomy.specs.declared.cite.CitePurpose.{CitePurpose}
use Rattle.driver_requests.specs.Requests.{SpecificLocator, note_number_in}
use Rattle.driver_requests.specs.Views as driver
use Rattle.driver_requests.specs.declared.item.CitationItem.{CitationItem}
use Rattle.driver_requests.specs.declared.request.CitationRequest.{CitationRequest}
use Rattle.cite_markers.specs.Document.{Piece, Text, Marker}
use Rattle.cite_markers.specs.Marker.{Cite}
use Rattle.cite_requests.specs.Markers.{CitedWork, cited_work}
use Rattle.cite_requests.specs.Requests.{OwnLocator, locator_of}
use Rattle.cite_requests.specs.Steps.{all_ok}
use Rattle.cite_requests.specs.Stages.{Refusal, refused_as, unknown_name}
use Rattle.cite_requests.specs.Works.{Works}

-- an item: the work, the part of it, whether it is hidden, and its purpose
pub record AskedItem : Type 0 where
  pub work : EntryData
  pub locator : Option (SpecificLocator OwnLocator)
  pub is_hidden : Bool
  pub purpose : Option CitePurpose

-- a request: the style with its locale, the number of the note, and the items
pub record AskedRequest : Type 0 where
  pub context : StyleContext
  pub note_number : Option ℕ
  pub items : List AskedItem

-- the item of a cite
abbrev pub asked_item : CitedWork → AskedItem
asked_item c = record { work = c.work; locator = option_map locator_of c.cite.locator; is_hidden = c.cite.hidden; purpose = c.cite.purpose }

-- the request of a marker
abbrev pub asked_request : StyleContext → ℕ × List CitedWork → AskedRequest
asked_request x (number, cites) = record { context = x; note_number = note_number_in x.style.class (Some number); items = map asked_item cites }

-- the item of a cite with the work that its name means, or the name, where it means none
abbrev pub item_asked : Works → Cite → Result AskedItem Refusal
item_asked works c = refused_as unknown_name (cited_work works c >>= λ found. Ok (asked_item found))

abbrev pub items_asked : Works → List Cite → Result (List AskedItem) Refusal
items_asked works cites = all_ok (item_asked works) cites

abbrev pub request_asked : Works → StyleContext → ℕ × List Cite → Result AskedRequest Refusal
request_asked works x (number, cites) = items_asked works cites >>= λ items. Ok (record { context = x; note_number = note_number_in x.style.class (Some number); items = items })

-- requests with that of one more piece, if it is a marker; markers count from one
abbrev pub request_pushed : Works → StyleContext → List AskedRequest → Piece → Result (List AskedRequest) Refusal
request_pushed works x done (Text t) = Ok done
request_pushed works x done (Marker cites) = request_asked works x (length done + 1, cites) >>= λ r. Ok (done ++ r ∷ [])

-- requests with those of more pieces
unfoldable pub requests_after : Works → StyleContext → List AskedRequest → List Piece → Result (List AskedRequest) Refusal
requests_after works x done [] = Ok done
requests_after works x done (p ∷ ps) = request_pushed works x done p >>= λ more. requests_after works x more ps

-- the requests of a document
abbrev pub requests_asked : Works → StyleContext → List Piece → Result (List AskedRequest) Refusal
requests_asked works x pieces = requests_after works x [] pieces

-- an item of the code
abbrev pub item_from : driver.Parts Entry OwnLocator → AskedItem
item_from p = record { work = entry_view p.entry; locator = p.locator; is_hidden = p.is_hidden; purpose = p.purpose }

abbrev pub asked_item_view : CitationItem Entry OwnLocator → AskedItem
asked_item_view i = item_from (driver.parts_of i)

-- a request of the code
abbrev pub asked_request_view : CitationRequest Entry OwnLocator → AskedRequest
asked_request_view r = record { context = driver.context_of r; note_number = r.note_number; items = map asked_item_view r.items.items }
