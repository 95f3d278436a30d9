-- The law that ties the relation of people to what is read.
use Rattle.std.specs.Prelude.{◌≡◌, ◌↔◌, List}
use Rattle.biblatex_lists.specs.Parts.{parts}
use Rattle.biblatex_lists.specs.Reading.{Named, people_of}
use Rattle.biblatex_readings_grammar.specs.Words.{Text}
use Rattle.biblatex_readings_grammar.specs.People.{ArePeople}

-- These are the people of a text exactly where the relation says so.
abbrev pub PeopleAreWhatIsRelated : Type 0
PeopleAreWhatIsRelated = (ss : Text) (ns : List Named) → (people_of (parts ss) ≡ ns) ↔ ArePeople ss ns
