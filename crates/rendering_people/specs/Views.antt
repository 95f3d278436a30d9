-- People as plain data.
use Rattle.std.specs.Prelude.{List, map}
use Rattle.std.specs.declared.borrow.Cow.{Cow}
use Rattle.literature_values.specs.PersonViews.{Named, lent_person_view}
use Rattle.literature_values.specs.declared.person.Person.{Person}
use Rattle.rendering_tree.specs.Metas as metas
use Rattle.rendering_people.specs.declared.people.Answered.{Answered}

-- people
abbrev pub lent_people_view : List (Cow Person) → List Named
lent_people_view ps = map lent_person_view ps

-- people, and the variable that they answer
abbrev pub lent_answered_view : Answered → metas.Answered
lent_answered_view a = (lent_people_view a.people.items, a.variable)

-- the people of several variables
abbrev pub all_lent_answered_view : List Answered → List metas.Answered
all_lent_answered_view people = map lent_answered_view people
