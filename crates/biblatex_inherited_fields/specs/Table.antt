-- Which fields an entry inherits, and under which name of the reference each of them stands. Names are bytes in lower case.
use Rattle.std.specs.Prelude.{ℕ, Bool, true, false, not, ◌==◌, ◌&&◌, ◌||◌, List, [], ◌∷◌, if◌then◌else◌, codes}
use Rattle.std.specs.List.{list_any}
use Rattle.std.specs.Str.{bytes_eq}
use Rattle.biblatex_entries.specs.declared.role.Role.{Role}
use Rattle.biblatex_entries.specs.declared.role.Role.TheVariants.{Article, Periodical, PartOfBook, PartOfOther, Book, MultiVolumeBook, Volume, XData}
use Rattle.biblatex_entries.specs.Roles.{is_multi_volume}

abbrev pub is_among : List (List ℕ) → List ℕ → Bool
is_among names name = list_any (bytes_eq name) names

-- the fields that every entry inherits
abbrev pub of_all : List (List ℕ)
of_all =
    codes "author" ∷ codes "editor" ∷ codes "editortype" ∷ codes "translator" ∷ codes "publisher" ∷ codes "location" ∷
    codes "address" ∷ codes "edition" ∷ codes "series" ∷ codes "number" ∷ codes "volume" ∷ codes "volumes" ∷ codes "isbn" ∷
    codes "issn" ∷ codes "doi" ∷ codes "url" ∷ codes "urldate" ∷ codes "eprint" ∷ codes "eprinttype" ∷ codes "language" ∷
    codes "langid" ∷ codes "institution" ∷ codes "school" ∷ codes "organization" ∷ codes "version" ∷ codes "pubstate" ∷
    codes "maintitle" ∷ codes "mainsubtitle" ∷ codes "eventtitle" ∷ codes "eventdate" ∷ codes "origdate" ∷ []

-- the fields that articles inherit as well
abbrev pub of_articles : List (List ℕ)
of_articles = codes "journaltitle" ∷ codes "journalsubtitle" ∷ codes "journal" ∷ codes "issue" ∷ []

abbrev pub of_parts : List (List ℕ)
of_parts = codes "booktitle" ∷ codes "booksubtitle" ∷ codes "bookauthor" ∷ []

-- the fields that are never inherited, not even by xdata entries, which inherit all others
abbrev pub never : List (List ℕ)
never = codes "crossref" ∷ codes "ids" ∷ codes "xdata" ∷ codes "title" ∷ codes "addendum" ∷ codes "note" ∷ []

-- whether an entry of the role inherits the field
abbrev pub inherits : Role → List ℕ → Bool
inherits XData name = not (is_among never name)
inherits Article name = is_among of_all name || is_among of_articles name
inherits PartOfBook name = is_among of_all name || is_among of_parts name
inherits PartOfOther name = is_among of_all name || is_among of_parts name
inherits _ name = is_among of_all name

abbrev pub is_xdata : Role → Bool
is_xdata XData = true
is_xdata _ = false

abbrev pub is_periodical : Role → Bool
is_periodical Periodical = true
is_periodical _ = false

-- a part of a book or of a work like it
abbrev pub is_part : Role → Bool
is_part PartOfBook = true
is_part PartOfOther = true
is_part _ = false

-- a book or a work like it, of one volume
abbrev pub is_volume : Role → Bool
is_volume Book = true
is_volume Volume = true
is_volume _ = false

abbrev pub is_part_of_book : Role → Bool
is_part_of_book PartOfBook = true
is_part_of_book _ = false

-- a book, of one volume or several
abbrev pub is_book : Role → Bool
is_book Book = true
is_book MultiVolumeBook = true
is_book _ = false

-- The name under which the field of a book or volume stands in the reference, where the entry is a part of it.
unfoldable pub renamed_in_part : Role → Role → List ℕ → List ℕ
renamed_in_part to from name =
    if (is_part to && is_volume from) && bytes_eq name (codes "booktitle") then codes "title"
    else (if (is_part to && is_volume from) && bytes_eq name (codes "booksubtitle") then codes "subtitle"
    else (if (is_part_of_book to && is_book from) && bytes_eq name (codes "bookauthor") then codes "author"
    else name))

-- The name under which the field stands in the reference. Titles of the reference become those of what the entry is part of,
-- and authors of a book those of the book that the entry is part of.
abbrev pub renamed : Role → Role → List ℕ → List ℕ
renamed to from name =
    if is_periodical from && bytes_eq name (codes "journaltitle") then codes "title"
    else (if is_periodical from && bytes_eq name (codes "journalsubtitle") then codes "subtitle"
    else (if is_multi_volume from && bytes_eq name (codes "maintitle") then codes "title"
    else (if is_multi_volume from && bytes_eq name (codes "mainsubtitle") then codes "subtitle"
    else renamed_in_part to from name)))

-- whether the byte is the third one of a name that may be renamed: i, o or u
abbrev pub is_third_of_renamed : ℕ → Bool
is_third_of_renamed b = b == 105 || b == 111 || b == 117

-- fields that come to xdata entries or from them keep their names
abbrev pub source_name : Role → Role → List ℕ → List ℕ
source_name to from name = if is_xdata to || is_xdata from then name else renamed to from name
