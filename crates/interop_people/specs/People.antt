-- The people that contents name, as people of a library.
use Rattle.std.specs.Prelude.{List, map, Option, Some, None}
use Rattle.laws.specs.Text.{if_filled}
use Rattle.biblatex_content.specs.Styled.{Member}
use Rattle.biblatex_lists.specs.Reading.{Named as SourceName, people_in}
use Rattle.literature_values.specs.PersonViews.{Named}

-- a person as a library holds one; an empty part of the name is absent
abbrev pub person_of : SourceName → Named
person_of p = record { name = p.name; given_name = if_filled p.given_name; prefix = if_filled p.prefix; suffix = if_filled p.suffix }

-- the people that a content names
abbrev pub people_of : Option (List Member) → Option (List Named)
people_of None = None
people_of (Some ms) = if_filled (map person_of (people_in ms))
