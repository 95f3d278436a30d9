-- What a library's entry says of itself, by the contents of the fields.
use Rattle.std.specs.Prelude.{ℕ, Bool, true, false, List, Option, Some, None, codes}
use Rattle.std.specs.Option.{option_or}
use Rattle.literature_values.specs.declared.entry_type.EntryType.{EntryType}
use Rattle.literature_values.specs.declared.entry_type.EntryType.TheVariants as works
use Rattle.literature_entries.specs.Fields.{Fields, Serials, nothing_but}
use Rattle.literature_values.specs.TypedViews.{ValueOrText}
use Rattle.literature_numbers.specs.Numerics.{Numeral}
use Rattle.literature_entries.specs.Names.{with_number}
use Rattle.interop_values.specs.Values.{Values}
use Rattle.interop_values.specs.Readings.{title_of, format_under, people_under, number_under, pages_under, bytes_under, publisher_of, own_date, date_under, date_if_read, address_of}

-- numbers with one more under the name of a scheme, if there is one
abbrev pub also : List ℕ → Option (List ℕ) → Option Serials → Option Serials
also scheme None numbers = numbers
also scheme (Some number) numbers = Some (with_number scheme number numbers)

-- what the entry itself says, but for the texts of its numbers
abbrev pub own_values : Values → EntryType → Fields
own_values v t = record (nothing_but t) {
  title = title_of v;
  author = people_under (codes "author") v;
  translator = people_under (codes "translator") v;
  date = date_if_read (own_date v);
  chapter = number_under (codes "chapter") v;
  page_range = pages_under (codes "pages") v;
  page_total = number_under (codes "pagetotal") v;
  url = address_of (date_if_read (date_under (codes "urldate") v)) v;
  serial_number = also (codes "doi") (bytes_under (codes "doi") v) None;
  note = format_under (codes "note") v;
  language = bytes_under (codes "langid") v;
}

-- texts of numbers and of pages as they were written, and those that are there already
abbrev pub own_texts : Values → Option Serials → Option Serials
own_texts v texts =
    also (codes "chapter") (bytes_under (codes "chapter") v)
    (also (codes "page-range") (bytes_under (codes "pages") v)
    (also (codes "page-total") (bytes_under (codes "pagetotal") v) texts))

-- what the entry itself says
abbrev pub own_fields : Values → EntryType → Fields
own_fields v t = record (own_values v t) { written = own_texts v None }

abbrev pub is_periodical : EntryType → Bool
is_periodical works.Periodical = true
is_periodical _ = false

-- the issue of a periodical, by `number` or else by `issue`; other works have none
abbrev pub issue_of : Bool → Values → Option (ValueOrText Numeral)
issue_of true v = option_or (number_under (codes "number") v) (number_under (codes "issue") v)
issue_of false v = None

-- `number`, where it is no issue
abbrev pub series_number : Bool → Values → Option (List ℕ)
series_number true v = None
series_number false v = bytes_under (codes "number") v

-- the text of an issue as it was written
abbrev pub issue_text : Bool → Values → Option (List ℕ)
issue_text true v = option_or (bytes_under (codes "number") v) (bytes_under (codes "issue") v)
issue_text false v = None

-- what the fields say of the container, but for the texts of its numbers
abbrev pub container_values : Values → Fields → Fields
container_values v fs = record fs {
  editor = people_under (codes "editor") v;
  publisher = publisher_of v;
  volume = number_under (codes "volume") v;
  volume_total = number_under (codes "volumes") v;
  issue = issue_of (is_periodical fs.entry_type) v;
  edition = number_under (codes "edition") v;
  serial_number = also (codes "serial") (series_number (is_periodical fs.entry_type) v) (also (codes "issn") (bytes_under (codes "issn") v) (also (codes "isbn") (bytes_under (codes "isbn") v) fs.serial_number));
}

-- texts of its numbers as they were written, and those that are there already; whether it is a periodical
abbrev pub container_texts : Bool → Values → Option Serials → Option Serials
container_texts periodical v texts =
    also (codes "volume") (bytes_under (codes "volume") v)
    (also (codes "volume-total") (bytes_under (codes "volumes") v)
    (also (codes "edition") (bytes_under (codes "edition") v)
    (also (codes "issue") (issue_text periodical v) texts)))

-- what the fields say of the container, or of the entry itself where there is no container
abbrev pub container_fields : Values → Fields → Fields
container_fields v fs =
    record (container_values v fs) {
      written = container_texts (is_periodical fs.entry_type) v fs.written;
    }
