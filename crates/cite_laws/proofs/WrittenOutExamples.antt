-- A chapter that refers to a book, and the chapter with the title of the book written in.
use Rattle.std.proofs.Common.{◌≡◌, ℕ, true, List, [], ◌∷◌, Some, codes, refl}
use Rattle.std.specs.List.{IsDistinct}
use Rattle.biblatex_content.specs.Styled.{Member}
use Rattle.biblatex_dates.specs.Parts.{year_part}
use Rattle.biblatex_entries.specs.Entries.{Source}
use Rattle.biblatex_entries.specs.TypeNames.{known}
use Rattle.biblatex_entries.specs.declared.role.Role.TheVariants.{Book}
use Rattle.biblatex_fields.specs.Fields.{Named, value_named}
use Rattle.biblatex_fields.specs.Value.{Value}
use Rattle.biblatex_inheritance.specs.Resolved.{Offer, resolved}
use Rattle.biblatex_inherited_fields.specs.Table.{renamed_in_part}
use Rattle.biblatex_writing.specs.Flat.{flat}
use Rattle.interop.specs.SameFiles.{SayTheSame}
use Rattle.interop.proofs.SameFilesExamples.{itself}
use Rattle.cite_laws.specs.WrittenOut.{HasNoReferences}

-- a value of a text, wherever its chunks stand
abbrev spelling : List Member → Value
spelling ms = record { text = ms; spans = []; is_joined = true }

abbrev entry : List ℕ → List ℕ → List Named → Source
entry key type_name fields = record { key = key; entry_type = known type_name; fields = fields }

-- a chapter with its own title and a reference, and the book that it refers to
abbrev chapter : List ℕ → List Member → List Member → Source
chapter key reference title = entry key (codes "inbook") ((codes "crossref", spelling reference) ∷ (codes "title", spelling title) ∷ [])

abbrev book : List ℕ → List Member → Source
book key title = entry key (codes "book") ((codes "title", spelling title) ∷ [])

abbrev offer : List ℕ → List Member → Offer
offer key title = record { number = 1; role = Book; fields = λ name. value_named name (book key title).fields }

-- Once its reference is resolved the chapter has the title of the book under `booktitle`, its own title, and its reference.
pub has_booktitle : (key other : List ℕ) (reference own title : List Member)
    → resolved (chapter key reference own) (offer other title ∷ []) (codes "booktitle") ≡ Some (spelling title)
unfolding year_part renamed_in_part
has_booktitle key other reference own title = refl

pub has_title : (key other : List ℕ) (reference own title : List Member)
    → resolved (chapter key reference own) (offer other title ∷ []) (codes "title") ≡ Some (spelling own)
unfolding year_part
has_title key other reference own title = refl

pub has_crossref : (key other : List ℕ) (reference own title : List Member)
    → resolved (chapter key reference own) (offer other title ∷ []) (codes "crossref") ≡ Some (spelling reference)
unfolding year_part
has_crossref key other reference own title = refl

-- the chapter that was read, and the one in which the title of the book is written, and which has no reference
abbrev read_chapter : List ℕ → List Member → List Member → List Member → Source
read_chapter key reference own title =
    entry key (codes "inbook") ((codes "booktitle", spelling title) ∷ (codes "crossref", spelling reference) ∷ (codes "title", spelling own) ∷ [])

abbrev written_chapter : List ℕ → List Member → List Member → Source
written_chapter key own title = entry key (codes "inbook") ((codes "booktitle", spelling title) ∷ (codes "title", spelling own) ∷ [])

pub has_none : (key : List ℕ) (own title : List Member) → HasNoReferences (written_chapter key own title)
has_none key own title = (refl, refl)

-- with the book they say the same without `crossref`
pub say_the_same : (key other : List ℕ) (reference first second : List Member) (m n : Member)
    → SayTheSame
    (flat (read_chapter key reference (m ∷ first) (n ∷ second) ∷ book other (n ∷ second) ∷ []))
    (flat (written_chapter key (m ∷ first) (n ∷ second) ∷ book other (n ∷ second) ∷ []))
unfolding IsDistinct
say_the_same key other reference first second m n = (
  itself (written_chapter key (m ∷ first) (n ∷ second)) ((refl, tt), (tt, tt)),
  (itself (book other (n ∷ second)) (tt, tt), tt),
)
