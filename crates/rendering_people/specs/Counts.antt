-- Properties as they lie in memory: the numbers of each variable, and the forms of all people in one run.
use Rattle.std.specs.Prelude.{◌≡◌, ℕ, ◌+◌, Bool, true, nat_le, min, max, List, [], ◌∷◌, map, length, take, drop}
use Rattle.std.specs.List.{list_all}
use Rattle.rendering_people.specs.Properties.{Properties}
use Rattle.rendering_people.specs.declared.properties.PeopleCount.{PeopleCount}
use Rattle.rendering_taxonomy.specs.declared.name.DisambiguatedNameForm.{DisambiguatedNameForm}

-- to each variable its forms, from the start of the run on
abbrev pub cut : List PeopleCount → List DisambiguatedNameForm → Properties
cut [] fs = []
cut (c ∷ cs) fs = record { variable = c.variable; forms = take c.people fs; shown = c.shown } ∷ cut cs (drop c.people fs)

-- the numbers of each variable
abbrev pub counts_of : Properties → List PeopleCount
counts_of ps = map (λ p. record { variable = p.variable; people = length p.forms; shown = p.shown }) ps

-- how many people there are
abbrev pub all_people : List PeopleCount → ℕ
all_people [] = 0
all_people (c ∷ cs) = c.people + all_people cs

-- whether no more people are shown than there are
abbrev pub is_within : PeopleCount → Bool
is_within c = nat_le c.shown c.people

-- there is a form for each person, and of no variable more people are shown than it has
pub record IsWhole (cs : List PeopleCount) (fs : List DisambiguatedNameForm) : Type 0 where
  pub people : length fs ≡ all_people cs
  pub shown : list_all is_within cs ≡ true

-- so many people are shown at least, but not more than there are
abbrev pub counted : ℕ → PeopleCount → PeopleCount
counted n c = record c { shown = min c.people (max c.shown n) }
