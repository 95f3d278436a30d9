-- What the fields of an entry say, under the names that they are written under.
use Rattle.std.specs.Prelude.{◌↔◌, ℕ, List, Contains, Option, option_map, option_to_list}
use Rattle.std.specs.List.{flat_map, IsDistinct}
use Rattle.std.specs.Map.{keys_of}
use Rattle.std.specs.Str.{bytes_eq}
use Rattle.biblatex_content.specs.Styled.{Member}
use Rattle.biblatex_fields.specs.Fields.{Named, text_named}
use Rattle.biblatex_writing.specs.FieldNames.{written_name}
use Rattle.interop_values.specs.Values.{filled}

-- a written name and what is written under it
abbrev pub Written : Type 0
Written = List ℕ × List Member

-- a field as it is written; one with nothing in it is not written
abbrev pub written_field : List ℕ → Option (List Member) → List Written
written_field name value = option_to_list (option_map (λ ms. (written_name name, ms)) (filled value))

-- the fields with something in them, each under its written name; of several fields of one name, which no entry of a file has, the value
-- of the first counts
abbrev pub written_fields : List Named → List Written
written_fields fs = flat_map (λ f. written_field f.0 (text_named f.0 fs)) fs

-- No two fields with something in them are written under one name.
abbrev pub AreWrittenApart : List Named → Type 0
AreWrittenApart fs = IsDistinct bytes_eq (keys_of (written_fields fs))

-- The fields of two entries say the same: neither have two that are written under one name, and each have all that the others have, in
-- whatever order.
pub record AreWrittenAlike (fs gs : List Named) : Type 0 where
  pub first_apart : AreWrittenApart fs
  pub second_apart : AreWrittenApart gs
  pub fields : (name : List ℕ) (value : List Member) → Contains (written_fields fs) (name, value) ↔ Contains (written_fields gs) (name, value)
