-- The fields that are written under another name than their own.
use Rattle.std.specs.Prelude.{codes}
use Rattle.biblatex_writing.specs.Order.{Row}
use Rattle.biblatex_writing.specs.declared.names.Moved.{Moved}
use Rattle.biblatex_writing.specs.declared.names.Moved.TheVariants as fields

-- the name that such a field is written under, and its own
abbrev pub row_view : Moved → Row
row_view fields.Annote = (codes "annotation", codes "annote")
row_view fields.PrimaryClass = (codes "eprintclass", codes "primaryclass")
row_view fields.ArchivePrefix = (codes "eprinttype", codes "archiveprefix")
row_view fields.Pdf = (codes "file", codes "pdf")
row_view fields.School = (codes "institution", codes "school")
row_view fields.Journal = (codes "journaltitle", codes "journal")
row_view fields.Address = (codes "location", codes "address")
row_view fields.Key = (codes "sortkey", codes "key")
