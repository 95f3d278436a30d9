-- How many people of variables are shown by the options.
use Rattle.std.specs.Prelude.{ℕ, ◌+◌, Bool, List, [], ◌∷◌, length}
use Rattle.rendering_style.specs.Options.{NameOptions}
use Rattle.rendering_tree.specs.Metas.{Answered}
use Rattle.rendering_people.specs.declared.properties.PeopleCount.{PeopleCount}
use Rattle.rendering_names.specs.Names.{shown_of}

-- how many people a variable has, and how many are shown by the options
abbrev pub own_count : NameOptions → Bool → Answered → PeopleCount
own_count o is_first a = record {
  variable = a.1;
  people = length a.0;
  shown = shown_of o is_first (length a.0);
}

-- how many people answer
abbrev pub people_count : List Answered → ℕ
people_count [] = 0
people_count (a ∷ people) = length a.0 + people_count people
