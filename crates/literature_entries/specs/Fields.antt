-- What an entry says of itself, as callers see it. Texts without pieces are bytes.
use Rattle.std.specs.Prelude.{ℕ, List, Option, None}
use Rattle.literature_numbers.specs.Numerics.{Numeral}
use Rattle.literature_numbers.specs.Pages.{Part}
use Rattle.literature_values.specs.OtherViews.{Address}
use Rattle.literature_values.specs.PersonViews.{Named}
use Rattle.literature_values.specs.TextViews.{Format, Publishing}
use Rattle.literature_values.specs.TypedViews.{ValueOrText}
use Rattle.literature_values.specs.declared.date.Date.{Date}
use Rattle.literature_values.specs.declared.entry_type.EntryType.{EntryType}

-- numbers by the names of their schemes, in order of the names
abbrev pub Serials : Type 0
Serials = List (List ℕ × List ℕ)

-- The type and the fields of an entry, its key and its parents aside. Last come the texts of numbers and of pages as they were
-- written, by the names of their fields.
pub record Fields : Type 0 where
  pub entry_type : EntryType
  pub title : Option Format
  pub author : Option (List Named)
  pub editor : Option (List Named)
  pub translator : Option (List Named)
  pub date : Option Date
  pub publisher : Option Publishing
  pub volume : Option (ValueOrText Numeral)
  pub volume_total : Option (ValueOrText Numeral)
  pub issue : Option (ValueOrText Numeral)
  pub chapter : Option (ValueOrText Numeral)
  pub edition : Option (ValueOrText Numeral)
  pub page_range : Option (ValueOrText (List Part))
  pub page_total : Option (ValueOrText Numeral)
  pub url : Option Address
  pub serial_number : Option Serials
  pub note : Option Format
  pub language : Option (List ℕ)
  pub written : Option Serials

-- a type without fields
abbrev pub nothing_but : EntryType → Fields
nothing_but t = record {
  entry_type = t;
  title = None;
  author = None;
  editor = None;
  translator = None;
  date = None;
  publisher = None;
  volume = None;
  volume_total = None;
  issue = None;
  chapter = None;
  edition = None;
  page_range = None;
  page_total = None;
  url = None;
  serial_number = None;
  note = None;
  language = None;
  written = None;
}
