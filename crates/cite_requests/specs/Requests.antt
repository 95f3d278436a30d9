-- What a driver is asked of the markers of a document: a request for each.
use Rattle.std.specs.Prelude.{ℕ, Bool, true, List, [], ◌∷◌, map, Some}
use Rattle.std.specs.List.{flat_map, enumerate_from}
use Rattle.std.specs.Option.{option_map}
use Rattle.literature_entries.specs.EntriesData.{EntryData}
use Rattle.rendering_entries.specs.Library.{answers_of}
use Rattle.rendering_locale.specs.Locales.{Locale}
use Rattle.rendering_style.specs.Styles.{Style}
use Rattle.rendering_context.specs.Contexts.{StyleContext}
use Rattle.driver_requests.specs.CitedEntries.{index_among}
use Rattle.driver_requests.specs.Requests.{Item, Request, SpecificLocator, written, note_number_in}
use Rattle.cite_markers.specs.Marker.{CiteLocator}
use Rattle.cite_requests.specs.Markers.{CitedWork}
use Rattle.cite_requests.specs.Works.{is_same}

-- All locators of a document are texts, so nothing is known of those that callers print by themselves.
abbrev pub OwnLocator : Type 0
OwnLocator = Unit {0}

abbrev pub is_same_own : OwnLocator → OwnLocator → Bool
is_same_own p q = true

-- a style with one locale, whose language is asked for
abbrev pub context_of : Style → Locale → StyleContext
context_of style locale = record { style = style; locale = locale.lang; locale_files = locale ∷ [] }

-- the part of a work that a cite points to
abbrev pub locator_of : CiteLocator → SpecificLocator OwnLocator
locator_of l = record { label = l.label; payload = written l.value }

-- the works of all cites, in order
abbrev pub works_in : List (List CitedWork) → List EntryData
works_in markers = flat_map (map (λ c. c.work)) markers

-- A cite as an item. Its entry has its index among the works that are cited, by first cite.
abbrev pub item_of : List EntryData → CitedWork → Item OwnLocator
item_of cited c = record {
  entry = record { index = index_among is_same cited c.work; answers = answers_of c.work };
  locator = option_map locator_of c.cite.locator;
  is_hidden = c.cite.hidden;
  purpose = c.cite.purpose;
}

-- a marker as a request; in a style of notes it is the note of that number
abbrev pub request_of : StyleContext → List EntryData → ℕ × List CitedWork → Request OwnLocator
request_of context cited (number, cites) = record {
  context = context;
  note_number = note_number_in context.style.class (Some number);
  items = map (item_of cited) cites;
}

-- a request for each marker; markers count from one
abbrev pub requests_of : StyleContext → List (List CitedWork) → List (Request OwnLocator)
requests_of context markers = map (request_of context (works_in markers)) (enumerate_from 1 markers)
