-- The contents of an entry's fields, by the names under which the fields are written.
use Rattle.std.specs.Prelude.{ℕ, List, [], ◌∷◌, if◌then◌else◌, Option, Some, None, option_and_then}
use Rattle.std.specs.Map.{lookup}
use Rattle.std.specs.Str.{bytes_eq}
use Rattle.std.specs.Option.{option_or}
use Rattle.biblatex_content.specs.Styled.{Member}
use Rattle.biblatex_fields.specs.Fields.{Named, text_named}
use Rattle.biblatex_entries.specs.Typed.{characters_of}
use Rattle.biblatex_writing.specs.FieldNames.{other_names, is_never_written}

-- what stands under each written name
abbrev pub Values : Type 0
Values = List ℕ → Option (List Member)

-- a content; an empty one is none, but a formula is something, even one without characters
abbrev pub filled : Option (List Member) → Option (List Member)
filled None = None
filled (Some []) = None
filled (Some (m ∷ ms)) = Some (m ∷ ms)

-- the content of a field by its other name, where it has one
abbrev pub by_other_name : List ℕ → List Named → Option (List Member)
by_other_name name fs = option_and_then (λ other. filled (text_named other fs)) (lookup (bytes_eq name) other_names)

-- what stands under a written name: of two fields that are written as one, the one that was read under it, unless it is empty; under the
-- other of the two names nothing stands
abbrev pub values : List Named → Values
values fs name = if is_never_written name then None else option_or (filled (text_named name fs)) (by_other_name name fs)

-- the characters under a name; none where nothing stands under it
abbrev pub text_under : List ℕ → Values → List ℕ
text_under name v = characters_of (v name)
