-- How numbers and forms as they lie in memory are raised to others.
use Rattle.std.specs.Prelude.{Bool, ◌==◌, ◌&&◌, min, max, List, [], ◌∷◌, ◌++◌, find, take, drop, if◌then◌else◌, Option, Some, None}
use Rattle.rendering_taxonomy.specs.NameForms.{greater_form}
use Rattle.rendering_taxonomy.specs.Variables.{is_name_variable}
use Rattle.rendering_people.specs.Properties.{greater_forms}
use Rattle.rendering_people.specs.declared.properties.PeopleCount.{PeopleCount}
use Rattle.rendering_taxonomy.specs.declared.name.DisambiguatedNameForm.{DisambiguatedNameForm}

-- whether numbers are of the same variable and of as many people
abbrev pub is_same_count : PeopleCount → PeopleCount → Bool
is_same_count c d = is_name_variable c.variable d.variable && c.people == d.people

-- so many people are shown as others show, but not more than there are
abbrev pub raised_by : PeopleCount → Option PeopleCount → PeopleCount
raised_by c None = c
raised_by c (Some d) = record c { shown = min c.people (max c.shown d.shown) }

-- so many people are shown as the first of others shows that is of the same variable and of as many people
abbrev pub raised_count : List PeopleCount → PeopleCount → PeopleCount
raised_count others c = raised_by c (find (is_same_count c) others)

-- the forms of that one; none where there is no such one
abbrev pub forms_like : PeopleCount → List PeopleCount → List DisambiguatedNameForm → List DisambiguatedNameForm
forms_like c [] fs = []
forms_like c (d ∷ ds) fs = if is_same_count c d then take d.people fs else forms_like c ds (drop d.people fs)

-- the forms of all people, those of each variable raised
abbrev pub raised_forms : List PeopleCount → List DisambiguatedNameForm → List PeopleCount → List DisambiguatedNameForm → List DisambiguatedNameForm
raised_forms [] fs others gs = []
raised_forms (c ∷ cs) fs others gs = greater_forms (take c.people fs) (forms_like c others gs) ++ raised_forms cs (drop c.people fs) others gs

-- the greater of two forms, or the first alone
abbrev pub greater_or : DisambiguatedNameForm → Option DisambiguatedNameForm → DisambiguatedNameForm
greater_or f None = f
greater_or f (Some g) = greater_form f g
