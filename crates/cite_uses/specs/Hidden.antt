-- A document in which entries are cited and nothing is printed of them but the bibliography.
use Rattle.std.specs.Prelude.{Bool, true, List, [], ◌∷◌, map, None}
use Rattle.literature_entries.specs.EntriesData.{entry_view}
use Rattle.literature_entries.specs.declared.entry.Entry.{Entry}
use Rattle.rendering_context.specs.Contexts.{StyleContext}
use Rattle.rendering_entries.specs.Library.{answers_of}
use Rattle.rendering_locale.specs.Locales.{Locale}
use Rattle.rendering_style.specs.Styles.{Style}
use Rattle.driver_requests.specs.CitedEntries.{index_among}
use Rattle.driver_requests.specs.Requests.{Request}
use Rattle.driver_requests.specs.Views.{Parts, item_from}
use Rattle.driver_rounds.specs.Documents.{Document}
use Rattle.cite_requests.specs.Requests.{OwnLocator}

-- an entry as a hidden item
abbrev pub hidden_parts : Entry → Parts Entry OwnLocator
hidden_parts e = record { entry = e; locator = None; locale = None; is_hidden = true; purpose = None }

-- a style with one locale, in the language of the style
abbrev pub context_in : Style → Locale → StyleContext
context_in style locale = record { style = style; locale = None; locale_files = locale ∷ [] }

-- one request of hidden items, where entries are the same by this
abbrev pub hidden_request : (Entry → Entry → Bool) → StyleContext → List Entry → Request OwnLocator
hidden_request same context entries = record {
  context = context;
  note_number = None;
  items = map (λ e. item_from (index_among same entries) (λ x. answers_of (entry_view x)) (hidden_parts e)) entries;
}

-- the document of that request
abbrev pub hidden_document : (Entry → Entry → Bool) → Style → Locale → List Entry → Document OwnLocator
hidden_document same style locale entries = record {
  requests = hidden_request same (context_in style locale) entries ∷ [];
  bibliography_context = context_in style locale;
  wanted = [];
  offset = 0;
}
