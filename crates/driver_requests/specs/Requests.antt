-- Requests with their items.
use Rattle.std.specs.Prelude.{ℕ, Bool, false, ◌==◌, ◌&&◌, List, Option, None}
use Rattle.std.specs.Option.{option_eq}
use Rattle.std.specs.Str.{bytes_eq}
use Rattle.rendering_taxonomy.specs.Kinds.{is_locator}
use Rattle.rendering_context.specs.Cites as cites
use Rattle.rendering_context.specs.Contexts.{StyleContext}
use Rattle.driver_requests.specs.CitedEntries.{CitedEntry}
use Rattle.rendering_taxonomy.specs.declared.cite.CitePurpose.{CitePurpose}
use Rattle.rendering_taxonomy.specs.declared.locator.Locator.{Locator}
use Rattle.rendering_taxonomy.specs.declared.style.StyleClass.{StyleClass}
use Rattle.rendering_taxonomy.specs.declared.style.StyleClass.TheVariants as style_classes

-- a text, or what the caller prints by itself
pub data Payload (P : Type 0) : Type 0 where
  written : List ℕ → Payload P
  own : P → Payload P

-- the part of a work that is cited: what it counts, and which it is
pub record SpecificLocator (P : Type 0) : Type 0 where
  pub label : Locator
  pub payload : Payload P

-- whether two payloads are equal; the caller says it of its own
abbrev pub is_payload : {P : Type 0} → (P → P → Bool) → Payload P → Payload P → Bool
is_payload same (written cs) (written ds) = bytes_eq cs ds
is_payload same (own p) (own q) = same p q
is_payload same p q = false

-- whether two locators are equal
abbrev pub is_specific_locator : {P : Type 0} → (P → P → Bool) → SpecificLocator P → SpecificLocator P → Bool
is_specific_locator same l m = is_locator l.label m.label && is_payload same l.payload m.payload

-- a payload without what the caller prints by itself
abbrev pub plain_payload : {P : Type 0} → Payload P → cites.Payload
plain_payload (written cs) = cites.written cs
plain_payload (own p) = cites.transparent

-- a locator with such a payload
abbrev pub plain_locator : {P : Type 0} → SpecificLocator P → cites.SpecificLocator
plain_locator l = record { label = l.label; payload = plain_payload l.payload }

-- An item: the entry that it cites, the part of it, whether it is hidden, and its purpose where it is no ordinary cite.
pub record Item (P : Type 0) : Type 0 where
  pub entry : CitedEntry
  pub locator : Option (SpecificLocator P)
  pub is_hidden : Bool
  pub purpose : Option CitePurpose

-- whether an item cites the entry at an index
abbrev pub cites_entry : {P : Type 0} → ℕ → Item P → Bool
cites_entry entry i = i.entry.index == entry

-- whether two items have equal locators, or none
abbrev pub same_locator : {P : Type 0} → (P → P → Bool) → Item P → Item P → Bool
same_locator same i j = option_eq (is_specific_locator same) i.locator j.locator

-- A request: its style with the language that is asked for, the number of its note, and its items.
pub record Request (P : Type 0) : Type 0 where
  pub context : StyleContext
  pub note_number : Option ℕ
  pub items : List (Item P)

-- the note number of a request by the class of its style; only styles of notes have one
abbrev pub note_number_in : StyleClass → Option ℕ → Option ℕ
note_number_in style_classes.Note n = n
note_number_in style_classes.InText n = None
