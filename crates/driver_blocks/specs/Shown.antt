-- The people who are printed by names.
use Rattle.std.specs.Prelude.{ℕ, ◌+◌, List, [], ◌∷◌, ◌++◌, if◌then◌else◌, unwrap_or, slice_get, Option, Some}
use Rattle.std.specs.List.{flat_map}
use Rattle.std.specs.Option.{option_map_or}
use Rattle.laws.specs.Characters.{line_feed}
use Rattle.literature_values.specs.PersonViews.{Named}
use Rattle.rendering_taxonomy.specs.Variables.{is_name_variable, name_index}
use Rattle.rendering_taxonomy.specs.declared.variable.NameVariable.{NameVariable}
use Rattle.rendering_tree.specs.Metas.{Answered, Meta, Name, Names}
use Rattle.rendering_tree.specs.Trees.{Child, Children, Elem, nothing, before}

-- a part of a name, on a line of its own; it is empty where the name has no such part
abbrev pub part_text : Option (List ℕ) → List ℕ
part_text part = line_feed ∷ unwrap_or part []

-- all parts of a name
abbrev pub name_text : Named → List ℕ
name_text p =
    part_text (Some p.name) ++ part_text p.given_name ++ part_text p.prefix ++ part_text p.suffix

-- the name of the person at an index, where the people answer that variable
abbrev pub name_at : NameVariable → ℕ → Answered → List ℕ
name_at v i a = if is_name_variable v a.1 then option_map_or name_text (slice_get a.0 i) [] else []

-- a character for each variable, from the small a on
abbrev pub variable_sign : NameVariable → ℕ
variable_sign v = 97 + name_index v

-- the name of the person that an element stands for among these people, after a line with the variable
abbrev pub shown_name : List Answered → Option Meta → List ℕ
shown_name people (Some (Name v i)) =
    line_feed ∷ variable_sign v ∷ flat_map (name_at v i) people
shown_name people m = []

-- the people whom the names in an element count: its own, where it is a names element, else those of what is around it
abbrev pub people_inside : List Answered → Option Meta → List Answered
people_inside people (Some (Names own)) = own
people_inside people m = people

abbrev mutual
  -- the names of the people who are printed in a child
  pub shown_child : List Answered → Child → List ℕ
  shown_child people (Elem d m xs) = shown_name people m ++ shown_people (people_inside people m) xs
  shown_child people x = []

  -- the names of the people who are printed in children, one after the other
  pub shown_people : List Answered → Children → List ℕ
  shown_people people nothing = []
  shown_people people (before x xs) = shown_child people x ++ shown_people people xs
