-- Entries of the code as callers see them.
use Rattle.std.specs.Global.{Global}
use Rattle.std.specs.Prelude.{◌≡◌, ℕ, List, map, Option, String, string_bytes}
use Rattle.std.specs.Option.{option_map, option_copied}
use Rattle.std.specs.Borrow.{Bor}
use Rattle.literature_numbers.specs.Views.{numeral_view}
use Rattle.literature_numbers.specs.PageViews.{pages_view}
use Rattle.literature_values.specs.OtherViews.{address_view}
use Rattle.literature_values.specs.PersonViews.{Named, person_view}
use Rattle.literature_values.specs.TextViews.{format_view, publishing_view}
use Rattle.literature_values.specs.TypedViews.{typed_view}
use Rattle.literature_values.specs.declared.person.Person.{Person}
use Rattle.literature_values.specs.declared.serial_number.SerialNumber.{SerialNumber}
use Rattle.literature_entries.specs.Fields.{Serials, Fields}
use Rattle.literature_entries.specs.declared.details.Details.{Details}
use Rattle.literature_entries.specs.declared.entry.Entry.{Entry, out-Entry}

-- the name of a scheme and a number by their bytes
abbrev pub serial_view : String Global × String Global → List ℕ × List ℕ
serial_view e = (string_bytes e.0, string_bytes e.1)

-- the numbers by the names of their schemes
abbrev pub serials_view : SerialNumber → Serials
serials_view s = map serial_view s.0.entries

-- the people in order
abbrev pub people_view : List Person → List Named
people_view ps = map person_view ps

-- the type and the fields
abbrev pub details_view : Details → Fields
details_view d = record {
  entry_type = d.entry_type;
  title = option_map format_view d.title;
  author = option_map (λ v. people_view v.items) d.author;
  editor = option_map (λ v. people_view v.items) d.editor;
  translator = option_map (λ v. people_view v.items) d.translator;
  date = d.date;
  publisher = option_map publishing_view d.publisher;
  volume = option_map (typed_view numeral_view) d.volume;
  volume_total = option_map (typed_view numeral_view) d.volume_total;
  issue = option_map (typed_view numeral_view) d.issue;
  chapter = option_map (typed_view numeral_view) d.chapter;
  edition = option_map (typed_view numeral_view) d.edition;
  page_range = option_map (typed_view pages_view) d.page_range;
  page_total = option_map (typed_view numeral_view) d.page_total;
  url = option_map address_view d.url;
  serial_number = option_map serials_view d.serial_number;
  note = option_map format_view d.note;
  language = option_map string_bytes d.language;
  written = option_map serials_view d.written;
}

-- the bytes of an entry's key
abbrev pub key_view : Entry → List ℕ
key_view e = string_bytes (out-Entry e).key

-- an entry's type and fields
abbrev pub fields_view : Entry → Fields
fields_view e = details_view (out-Entry e).details

-- an entry's parents
abbrev pub parents : Entry → List Entry
parents e = (out-Entry e).parents.items

-- what a borrowed value is, under the view, where there is one
abbrev pub view_in : {X V : Type 0} → (X → V) → Option (Bor X) → Option V
view_in view x = option_map view (option_copied x)

-- an entry with other fields; its key and its parents stay
abbrev pub Sets : Entry → Fields → Entry → Type 0
Sets old fs new = (key_view new ≡ key_view old) × (fields_view new ≡ fs) × (parents new ≡ parents old)
