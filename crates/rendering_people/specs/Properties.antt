-- How much of names is printed to disambiguate cites.
use Rattle.std.specs.Prelude.{ℕ, ◌-◌, Bool, true, false, ◌==◌, ◌&&◌, ◌||◌, nat_lt, min, max, List, [], ◌∷◌, map, find, length, sum_by, if◌then◌else◌, slice_get, slice_set, Option, Some, None}
use Rattle.std.specs.List.{list_any, flat_map}
use Rattle.rendering_taxonomy.specs.NameForms.{rank, greater_form}
use Rattle.rendering_taxonomy.specs.Variables.{is_name_variable}
use Rattle.rendering_taxonomy.specs.declared.name.DisambiguatedNameForm.{DisambiguatedNameForm}
use Rattle.rendering_taxonomy.specs.declared.variable.NameVariable.{NameVariable}

-- What is printed of the people of a variable: the form of each, and how many are shown.
pub record VariableProperties : Type 0 where
  pub variable : NameVariable
  pub forms : List DisambiguatedNameForm
  pub shown : ℕ

-- what is printed of the people of each variable of a names node that has people
abbrev pub Properties : Type 0
Properties = List VariableProperties

-- the forms of all people, one after the other
abbrev pub all_forms : Properties → List DisambiguatedNameForm
all_forms ps = flat_map (λ p. p.forms) ps

-- so many people are shown at least, but not more than there are
abbrev pub showing : ℕ → VariableProperties → VariableProperties
showing n p = record p { shown = min (length p.forms) (max p.shown n) }

-- so many people of each variable are shown at least
abbrev pub with_name : ℕ → Properties → Properties
with_name n ps = map (showing n) ps

-- whether that shows more
abbrev pub adds_name : ℕ → Properties → Bool
adds_name n ps = list_any (λ p. nat_lt p.shown (showing n p).shown) ps

-- the form of the person at an index among all people
abbrev pub form_at : ℕ → Properties → Option DisambiguatedNameForm
form_at i ps = slice_get (all_forms ps) i

-- another form for the person at an index among all people
abbrev pub with_form : ℕ → DisambiguatedNameForm → Properties → Properties
with_form i f [] = []
with_form i f (p ∷ ps) =
    if nat_lt i (length p.forms)
    then record p { forms = slice_set p.forms i f } ∷ ps
    else p ∷ with_form (i - length p.forms) f ps

-- how many people are shown
abbrev pub all_shown : Properties → ℕ
all_shown ps = sum_by (λ p. p.shown) ps

-- whether one run of numbers is above another: by the first index where they differ, or else by going on where the other ends
abbrev pub is_above : List ℕ → List ℕ → Bool
is_above [] ns = false
is_above (m ∷ ms) [] = true
is_above (m ∷ ms) (n ∷ ns) = nat_lt n m || (m == n && is_above ms ns)

-- whether more is printed: more people, or as many in greater forms
abbrev pub prints_more : Properties → Properties → Bool
prints_more ps qs = nat_lt (all_shown qs) (all_shown ps) || (all_shown ps == all_shown qs && is_above (map rank (all_forms ps)) (map rank (all_forms qs)))

-- the greater of two; where neither prints more, the second
abbrev pub greater : Properties → Properties → Properties
greater ps qs = if prints_more ps qs then ps else qs

-- the greater form at each index
abbrev pub greater_forms : List DisambiguatedNameForm → List DisambiguatedNameForm → List DisambiguatedNameForm
greater_forms [] gs = []
greater_forms (f ∷ fs) [] = f ∷ fs
greater_forms (f ∷ fs) (g ∷ gs) = greater_form f g ∷ greater_forms fs gs

-- whether properties are of the same variable and of as many people
abbrev pub is_of_same : VariableProperties → VariableProperties → Bool
is_of_same p q = is_name_variable p.variable q.variable && length p.forms == length q.forms

-- each form and number is at least that of others
abbrev pub at_least : VariableProperties → Option VariableProperties → VariableProperties
at_least p None = p
at_least p (Some q) = record p { forms = greater_forms p.forms q.forms; shown = min (length p.forms) (max p.shown q.shown) }

-- what a node prints of its own, raised where others of the same variable and of as many people print more
abbrev pub raised_to : Properties → Properties → Properties
raised_to others ps = map (λ p. at_least p (find (is_of_same p) others)) ps
