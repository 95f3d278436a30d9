-- The types of entries by their names.
use Rattle.std.specs.Prelude.{ℕ, Bool, true, false, ◌&&◌, ◌||◌, List, [], ◌∷◌, if◌then◌else◌, codes, string_bytes}
use Rattle.std.specs.List.{list_any}
use Rattle.std.specs.Str.{bytes_eq}
use Rattle.biblatex_entries.specs.declared.entry_type.EntryType.{EntryType}
use Rattle.biblatex_entries.specs.declared.entry_type.EntryType.TheVariants as types

-- a type's name, and whether it is one of the known ones
pub record TypeName : Type 0 where
  pub name : List ℕ
  pub is_known : Bool

-- a known type of one of these names
abbrev pub is_one_of : List (List ℕ) → TypeName → Bool
is_one_of names t = t.is_known && list_any (bytes_eq t.name) names

-- the types that have a variant of their own
abbrev pub known_names : List (List ℕ)
known_names =
    codes "article" ∷ codes "book" ∷ codes "booklet" ∷ codes "bookinbook" ∷ codes "collection" ∷ codes "dataset" ∷
    codes "inbook" ∷ codes "incollection" ∷ codes "inproceedings" ∷ codes "inreference" ∷ codes "manual" ∷
    codes "mastersthesis" ∷ codes "misc" ∷ codes "mvbook" ∷ codes "mvcollection" ∷ codes "mvproceedings" ∷
    codes "mvreference" ∷ codes "online" ∷ codes "patent" ∷ codes "periodical" ∷ codes "phdthesis" ∷
    codes "proceedings" ∷ codes "reference" ∷ codes "report" ∷ codes "set" ∷ codes "software" ∷ codes "suppbook" ∷
    codes "suppcollection" ∷ codes "suppperiodical" ∷ codes "techreport" ∷ codes "thesis" ∷ codes "unpublished" ∷
    codes "xdata" ∷ []

-- three names are read as others
abbrev pub read_name : List ℕ → List ℕ
read_name name = if bytes_eq name (codes "conference") then codes "inproceedings"
    else (if bytes_eq name (codes "electronic") || bytes_eq name (codes "www") then codes "online" else name)

-- the type of a name in lower case
abbrev pub type_of : List ℕ → TypeName
type_of name = record { name = read_name name; is_known = list_any (bytes_eq (read_name name)) known_names }

abbrev pub known : List ℕ → TypeName
known name = record { name = name; is_known = true }

-- the type that stands for a known one where entries are written: those of theses are one, and a technical report is a report
abbrev pub written_type : TypeName → TypeName
written_type t = if is_one_of (codes "mastersthesis" ∷ codes "phdthesis" ∷ []) t then known (codes "thesis")
    else (if is_one_of (codes "techreport" ∷ []) t then known (codes "report") else t)

-- the name of a type
abbrev pub type_name : EntryType → TypeName
type_name types.Article = known (codes "article")
type_name types.Book = known (codes "book")
type_name types.Booklet = known (codes "booklet")
type_name types.BookInBook = known (codes "bookinbook")
type_name types.Collection = known (codes "collection")
type_name types.Dataset = known (codes "dataset")
type_name types.InBook = known (codes "inbook")
type_name types.InCollection = known (codes "incollection")
type_name types.InProceedings = known (codes "inproceedings")
type_name types.InReference = known (codes "inreference")
type_name types.Manual = known (codes "manual")
type_name types.MastersThesis = known (codes "mastersthesis")
type_name types.Misc = known (codes "misc")
type_name types.MvBook = known (codes "mvbook")
type_name types.MvCollection = known (codes "mvcollection")
type_name types.MvProceedings = known (codes "mvproceedings")
type_name types.MvReference = known (codes "mvreference")
type_name types.Online = known (codes "online")
type_name types.Patent = known (codes "patent")
type_name types.Periodical = known (codes "periodical")
type_name types.PhdThesis = known (codes "phdthesis")
type_name types.Proceedings = known (codes "proceedings")
type_name types.Reference = known (codes "reference")
type_name types.Report = known (codes "report")
type_name types.Set = known (codes "set")
type_name types.Software = known (codes "software")
type_name types.SuppBook = known (codes "suppbook")
type_name types.SuppCollection = known (codes "suppcollection")
type_name types.SuppPeriodical = known (codes "suppperiodical")
type_name types.TechReport = known (codes "techreport")
type_name types.Thesis = known (codes "thesis")
type_name types.Unpublished = known (codes "unpublished")
type_name types.XData = known (codes "xdata")
type_name (types.Unknown name) = record { name = string_bytes name; is_known = false }
