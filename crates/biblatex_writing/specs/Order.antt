-- The order of written names, from the order of own names: most fields are written under their own name, and some are moved.
use Rattle.std.specs.Prelude.{ℕ, Bool, ◌&&◌, ◌||◌, List, [], ◌∷◌, ◌++◌, option_map, option_to_list, if◌then◌else◌}
use Rattle.std.specs.List.{flat_map}
use Rattle.std.specs.Str.{bytes_eq}
use Rattle.biblatex_fields.specs.Fields.{Named, value_named}
use Rattle.biblatex_writing.specs.FieldNames.{is_never_written}
use Rattle.biblatex_writing.specs.Written.{is_less}

-- a name that fields are written under, and the other one that they are read under
abbrev pub Row : Type 0
Row = List ℕ × List ℕ

-- whether a moved field comes before a field that is written under its own name: by written names, and by own names where these are one
abbrev pub comes_before : Row → List ℕ → Bool
comes_before row name = is_less row.0 name || (bytes_eq row.0 name && is_less row.1 name)

-- the rows from the start on that come before the name, and those after them
abbrev pub rows_before : List ℕ → List Row → List Row
rows_before name [] = []
rows_before name (row ∷ rows) = if comes_before row name then row ∷ rows_before name rows else []

abbrev pub rows_after : List ℕ → List Row → List Row
rows_after name [] = []
rows_after name (row ∷ rows) = if comes_before row name then rows_after name rows else row ∷ rows

-- the field of a name, where there is one
abbrev pub field_there : List ℕ → List Named → List Named
field_there name fs = option_to_list (option_map (λ v. (name, v)) (value_named name fs))

-- the moved fields of these rows
abbrev pub moved : List Row → List Named → List Named
moved rows all = flat_map (λ row. field_there row.1 all) rows

-- fields that are left, with the moved ones of the rows that are left at their places; the moved ones among the former are passed over
abbrev pub merged : List Row → List Named → List Named → List Named
merged rows [] all = moved rows all
merged rows (f ∷ fs) all = if is_never_written f.0 then merged rows fs all else moved (rows_before f.0 rows) all ++ f ∷ merged (rows_after f.0 rows) fs all
