-- The types of entries by their names.
use Rattle.std.specs.Prelude.{ℕ, Bool, List, [], ◌∷◌, Option, codes}
use Rattle.std.specs.List.{find}
use Rattle.std.specs.Str.{chars, bytes_eq}
use Rattle.caseless.specs.Caseless.{default_case_fold}
use Rattle.literature_values.specs.declared.entry_type.EntryType.{EntryType}
use Rattle.literature_values.specs.declared.entry_type.EntryType.TheVariants as types

-- the name of a type
abbrev pub type_name : EntryType → List ℕ
type_name types.Article = codes "article"
type_name types.Chapter = codes "chapter"
type_name types.Entry = codes "entry"
type_name types.Anthos = codes "anthos"
type_name types.Report = codes "report"
type_name types.Thesis = codes "thesis"
type_name types.Web = codes "web"
type_name types.Scene = codes "scene"
type_name types.Artwork = codes "artwork"
type_name types.Patent = codes "patent"
type_name types.Case = codes "case"
type_name types.Newspaper = codes "newspaper"
type_name types.Legislation = codes "legislation"
type_name types.Manuscript = codes "manuscript"
type_name types.Original = codes "original"
type_name types.Post = codes "post"
type_name types.Misc = codes "misc"
type_name types.Performance = codes "performance"
type_name types.Periodical = codes "periodical"
type_name types.Proceedings = codes "proceedings"
type_name types.Book = codes "book"
type_name types.Blog = codes "blog"
type_name types.Reference = codes "reference"
type_name types.Conference = codes "conference"
type_name types.Anthology = codes "anthology"
type_name types.Repository = codes "repository"
type_name types.Thread = codes "thread"
type_name types.Video = codes "video"
type_name types.Audio = codes "audio"
type_name types.Exhibition = codes "exhibition"

-- the types
abbrev pub entry_types : List EntryType
entry_types =
    types.Article ∷ types.Chapter ∷ types.Entry ∷ types.Anthos ∷ types.Report ∷ types.Thesis ∷
    types.Web ∷ types.Scene ∷ types.Artwork ∷ types.Patent ∷ types.Case ∷ types.Newspaper ∷
    types.Legislation ∷ types.Manuscript ∷ types.Original ∷ types.Post ∷ types.Misc ∷ types.Performance ∷
    types.Periodical ∷ types.Proceedings ∷ types.Book ∷ types.Blog ∷ types.Reference ∷ types.Conference ∷
    types.Anthology ∷ types.Repository ∷ types.Thread ∷ types.Video ∷ types.Audio ∷ types.Exhibition ∷ []

-- the name is that of the type once case is folded in both
abbrev pub is_called : List ℕ → EntryType → Bool
is_called name t = bytes_eq (default_case_fold name) (default_case_fold (chars (type_name t)))

-- the type of that name, or none
unfoldable pub type_called : List ℕ → Option EntryType
type_called name = find (is_called name) entry_types
