-- What the code holds, as plain lists.
use Rattle.std.specs.Prelude.{◌≡◌, List, map}
use Rattle.laws.specs.Text.{characters}
use Rattle.biblatex_lists.specs.declared.styled_char.StyledChar.{StyledChar}
use Rattle.biblatex_lists.specs.declared.person.Person.{Person}
use Rattle.biblatex_lists.specs.declared.reading.Found.{Found}
use Rattle.biblatex_lists.specs.Reading.{Named, person_in, ends_in_others}

-- a person as characters
abbrev pub named_view : Person → Named
named_view p = record { name = characters p.name; given_name = characters p.given_name; prefix = characters p.prefix; suffix = characters p.suffix }

-- The people that were found are those in these texts.
pub record AreFoundIn (f : Found) (ps : List (List StyledChar)) : Type 0 where
  pub people : map named_view f.people.items ≡ map person_in ps
  pub ends : f.ends_in_others ≡ ends_in_others ps
