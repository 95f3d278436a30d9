-- The fields that are read as dates.
use Rattle.std.specs.Prelude.{ℕ, List, codes}
use Rattle.interop.specs.declared.error.DateField.{DateField}
use Rattle.interop.specs.declared.error.DateField.TheVariants as dates

-- the name under which a field is written
abbrev pub field_name : DateField → List ℕ
field_name dates.Date = codes "date"
field_name dates.EventDate = codes "eventdate"
field_name dates.OrigDate = codes "origdate"
field_name dates.UrlDate = codes "urldate"
