-- Names of fields for which entries ask each other.
use Rattle.std.specs.Prelude.{ℕ, List, [], Option, Some, None, codes}
use Rattle.std.specs.Option.{unwrap_or}
use Rattle.biblatex_suppliers.specs.declared.names.FieldName.{FieldName}
use Rattle.biblatex_suppliers.specs.declared.names.FieldName.TheVariants as names

-- the name of a field that every entry inherits
abbrev pub general_name : FieldName → Option (List ℕ)
general_name names.Author = Some (codes "author")
general_name names.Editor = Some (codes "editor")
general_name names.EditorType = Some (codes "editortype")
general_name names.Translator = Some (codes "translator")
general_name names.Publisher = Some (codes "publisher")
general_name names.Location = Some (codes "location")
general_name names.Address = Some (codes "address")
general_name names.Edition = Some (codes "edition")
general_name names.Series = Some (codes "series")
general_name names.Number = Some (codes "number")
general_name names.Volume = Some (codes "volume")
general_name names.Volumes = Some (codes "volumes")
general_name names.Isbn = Some (codes "isbn")
general_name names.Issn = Some (codes "issn")
general_name names.Doi = Some (codes "doi")
general_name names.Url = Some (codes "url")
general_name names.UrlDate = Some (codes "urldate")
general_name names.Eprint = Some (codes "eprint")
general_name names.EprintType = Some (codes "eprinttype")
general_name names.Language = Some (codes "language")
general_name names.LangId = Some (codes "langid")
general_name names.Institution = Some (codes "institution")
general_name names.School = Some (codes "school")
general_name names.Organization = Some (codes "organization")
general_name names.Version = Some (codes "version")
general_name names.PubState = Some (codes "pubstate")
general_name names.MainTitle = Some (codes "maintitle")
general_name names.MainSubtitle = Some (codes "mainsubtitle")
general_name names.EventTitle = Some (codes "eventtitle")
general_name names.EventDate = Some (codes "eventdate")
general_name names.OrigDate = Some (codes "origdate")
general_name _ = None

-- the name of another field
abbrev pub special_name : FieldName → List ℕ
special_name names.JournalTitle = codes "journaltitle"
special_name names.JournalSubtitle = codes "journalsubtitle"
special_name names.Journal = codes "journal"
special_name names.Issue = codes "issue"
special_name names.BookTitle = codes "booktitle"
special_name names.BookSubtitle = codes "booksubtitle"
special_name names.BookAuthor = codes "bookauthor"
special_name names.Date = codes "date"
special_name names.Year = codes "year"
special_name names.Month = codes "month"
special_name names.Day = codes "day"
special_name names.Title = codes "title"
special_name names.Subtitle = codes "subtitle"
special_name _ = []

-- the name of each, in lower case
abbrev pub field_name : FieldName → List ℕ
field_name name = unwrap_or (general_name name) (special_name name)
