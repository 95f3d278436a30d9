-- What an entry of each type is in a library, and what it is part of.
use Rattle.std.specs.Prelude.{ℕ, List, [], ◌∷◌, if◌then◌else◌, Option, Some, None, codes}
use Rattle.biblatex_entries.specs.TypeNames.{TypeName, is_one_of}
use Rattle.literature_values.specs.declared.entry_type.EntryType.{EntryType}
use Rattle.literature_values.specs.declared.entry_type.EntryType.TheVariants as works

-- a work that holds others, and the field in which they name its title
pub record Container : Type 0 where
  pub entry_type : EntryType
  pub title : List ℕ

-- what an entry is, and the work that may hold it
pub record Row : Type 0 where
  pub entry_type : EntryType
  pub container : Option Container

-- a type without a container
abbrev pub alone : EntryType → Row
alone t = record { entry_type = t; container = None }

-- a type with a container, whose title stands in a field
abbrev pub part_of : EntryType → List ℕ → EntryType → Row
part_of outer title t = record { entry_type = t; container = Some (record { entry_type = outer; title = title }) }

-- the row of a type that stands for it where entries are written
abbrev pub row_of : TypeName → Row
row_of t =
    if is_one_of (codes "article" ∷ codes "suppperiodical" ∷ []) t then part_of works.Periodical (codes "journaltitle") works.Article
    else (if is_one_of (codes "inbook" ∷ codes "bookinbook" ∷ codes "suppbook" ∷ []) t then part_of works.Book (codes "booktitle") works.Chapter
    else (if is_one_of (codes "incollection" ∷ codes "suppcollection" ∷ []) t then part_of works.Anthology (codes "booktitle") works.Anthos
    else (if is_one_of (codes "inreference" ∷ []) t then part_of works.Reference (codes "booktitle") works.Entry
    else (if is_one_of (codes "inproceedings" ∷ []) t then part_of works.Proceedings (codes "booktitle") works.Article
    else (if is_one_of (codes "book" ∷ codes "mvbook" ∷ codes "booklet" ∷ []) t then alone works.Book
    else (if is_one_of (codes "collection" ∷ codes "mvcollection" ∷ []) t then alone works.Anthology
    else (if is_one_of (codes "proceedings" ∷ codes "mvproceedings" ∷ []) t then alone works.Proceedings
    else (if is_one_of (codes "reference" ∷ codes "mvreference" ∷ []) t then alone works.Reference
    else (if is_one_of (codes "periodical" ∷ []) t then alone works.Periodical
    else (if is_one_of (codes "report" ∷ codes "manual" ∷ []) t then alone works.Report
    else (if is_one_of (codes "patent" ∷ []) t then alone works.Patent
    else (if is_one_of (codes "thesis" ∷ []) t then alone works.Thesis
    else (if is_one_of (codes "online" ∷ []) t then alone works.Web
    else (if is_one_of (codes "software" ∷ []) t then alone works.Repository
    else (if is_one_of (codes "unpublished" ∷ []) t then alone works.Manuscript
    else alone works.Misc)))))))))))))))
