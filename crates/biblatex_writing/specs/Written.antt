-- The file of a bibliography, as bytes.
use Rattle.std.specs.Prelude.{ℕ, Bool, List, [], ◌∷◌, ◌++◌, codes, if◌then◌else◌}
use Rattle.std.specs.List.{flat_map}
use Rattle.std.specs.Ordering.{nat_cmp, is_lt}
use Rattle.std.specs.Cmp.Lexicographic.{slice_cmp}
use Rattle.laws.specs.Characters.{line_feed}
use Rattle.laws.specs.Text.{text}
use Rattle.biblatex_content.specs.Verbatim.{is_verbatim_name}
use Rattle.biblatex_content.specs.Writing.{written_content}
use Rattle.biblatex_fields.specs.Fields.{Named}
use Rattle.biblatex_entries.specs.Entries.{Source}
use Rattle.biblatex_entries.specs.TypeNames.{written_type}
use Rattle.biblatex_writing.specs.FieldNames.{written_name}

-- the order of bytes
abbrev pub is_less : List ℕ → List ℕ → Bool
is_less a b = is_lt (slice_cmp nat_cmp a b)

-- a field among fields in the order of written names: before the first whose written name is not less
abbrev pub placed : Named → List Named → List Named
placed f [] = f ∷ []
placed f (g ∷ gs) = if is_less (written_name g.0) (written_name f.0) then g ∷ placed f gs else f ∷ g ∷ gs

-- fields in the order of written names; those of equal ones stay in the order that they are in, which is that of their own names
abbrev pub in_written_order : List Named → List Named
in_written_order [] = []
in_written_order (f ∷ fs) = placed f (in_written_order fs)

-- a field's line
abbrev pub written_field : Named → List ℕ
written_field f = written_name f.0 ++ codes " = {" ++ text (written_content (is_verbatim_name f.0) f.1.text) ++ codes "},\n"

-- an entry: its type and key, its fields, and a line that closes it
abbrev pub written_entry : Source → List ℕ
written_entry e = codes "@" ++ (written_type e.entry_type).name ++ codes "{" ++ e.key ++ codes ",\n" ++ flat_map written_field (in_written_order e.fields) ++ codes "}\n"

-- entries in their order, with an empty line between them
abbrev pub written_file : List Source → List ℕ
written_file [] = []
written_file (e ∷ []) = written_entry e
written_file (e ∷ f ∷ es) = written_entry e ++ line_feed ∷ written_file (f ∷ es)
