-- The code's values without where they lie in memory.
use Rattle.std.specs.Prelude.{ℕ, Bool, List, map, Option}
use Rattle.std.specs.List.{flat_map}
use Rattle.std.specs.Option.{option_map}
use Rattle.std.specs.Str.{chars}
use Rattle.rendering_locale.specs.CodeViews.{code_view}
use Rattle.rendering_locale.specs.Views.{locale_view}
use Rattle.rendering_style.specs.StyleViews.{style_view}
use Rattle.rendering_entries.specs.Answers.{Answers}
use Rattle.rendering_context.specs.declared.locator.LocatorPayload.{LocatorPayload}
use Rattle.rendering_context.specs.declared.locator.LocatorPayload.TheVariants as payloads
use Rattle.rendering_context.specs.declared.locator.SpecificLocator.{SpecificLocator}
use Rattle.rendering_context.specs.Contexts.{StyleContext}
use Rattle.rendering_taxonomy.specs.declared.cite.CitePurpose.{CitePurpose}
use Rattle.driver_requests.specs.Requests as requests
use Rattle.driver_requests.specs.Requests.{Item, Request}
use Rattle.driver_requests.specs.declared.item.CitationItem.{CitationItem}
use Rattle.driver_requests.specs.declared.position.LastCite.{LastCite}
use Rattle.driver_requests.specs.declared.request.CitationRequest.{CitationRequest}

-- a text, or what the caller prints by itself
abbrev pub request_payload_view : {P : Type 0} → LocatorPayload P → requests.Payload P
request_payload_view (payloads.Str s) = requests.written (chars s.now)
request_payload_view (payloads.Transparent t) = requests.own t.payload

-- the part of a work that is cited
abbrev pub request_locator_view : {P : Type 0} → SpecificLocator P → requests.SpecificLocator P
request_locator_view l = record { label = l.label; payload = request_payload_view l.payload }

-- An item: the entry, the part of it, the language of its terms, whether it is hidden, and what it is for.
pub record Parts (T P : Type 0) : Type 0 where
  pub entry : T
  pub locator : Option (requests.SpecificLocator P)
  pub locale : Option (List ℕ)
  pub is_hidden : Bool
  pub purpose : Option CitePurpose

-- what an item is made of
abbrev pub parts_of : {T P : Type 0} → CitationItem T P → Parts T P
parts_of i = record {
  entry = i.entry.now;
  locator = option_map request_locator_view i.locator;
  locale = option_map code_view i.locale;
  is_hidden = i.hidden;
  purpose = i.purpose;
}

-- the item that it is, where each entry has an index and answers
abbrev pub item_from : {T P : Type 0} → (T → ℕ) → (T → Answers) → Parts T P → Item P
item_from index answers i = record {
  entry = record { index = index i.entry; answers = answers i.entry };
  locator = i.locator;
  is_hidden = i.is_hidden;
  purpose = i.purpose;
}

-- an item, where each entry has an index and answers
abbrev pub item_view : {T P : Type 0} → (T → ℕ) → (T → Answers) → CitationItem T P → Item P
item_view index answers i = item_from index answers (parts_of i)

-- the index of the last cite in its request, and its item
abbrev pub last_view : {T P : Type 0} → (T → Answers) → LastCite T P → ℕ × Item P
last_view answers l = (l.index, item_view (λ e. l.entry) answers l.item.now)

-- the style of a request with the language that is asked for, and the files with locales
abbrev pub context_of : {T P : Type 0} → CitationRequest T P → StyleContext
context_of r = record { style = style_view r.style.now; locale = option_map code_view r.locale; locale_files = map locale_view r.locale_files.now }

-- a request, where each entry has an index and answers
abbrev pub request_view : {T P : Type 0} → (T → ℕ) → (T → Answers) → CitationRequest T P → Request P
request_view index answers r = record { context = context_of r; note_number = r.note_number; items = map (item_view index answers) r.items.items }

-- the entry of an item
abbrev pub entry_of_item : {T P : Type 0} → CitationItem T P → T
entry_of_item i = i.entry.now

-- the entries of the items of a request
abbrev pub entries_of : {T P : Type 0} → CitationRequest T P → List T
entries_of r = map entry_of_item r.items.items

-- the entries of the items of all requests
abbrev pub entries_in : {T P : Type 0} → List (CitationRequest T P) → List T
entries_in rs = flat_map entries_of rs
