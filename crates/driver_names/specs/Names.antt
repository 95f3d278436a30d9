-- How names disambiguate the cites of a class.
use Rattle.std.specs.Prelude.{ℕ, zero, suc, ◌+◌, Bool, true, false, not, ◌==◌, ◌&&◌, max, List, [], ◌∷◌, map, filter, fold, length, take, slice_get, if◌then◌else◌, Option, Some, None}
use Rattle.std.specs.List.{list_any, flat_map, enumerate_from, range_with_len}
use Rattle.std.specs.Option.{option_map, option_map_or, option_and_then}
use Rattle.std.specs.Str.{bytes_eq}
use Rattle.std.specs.Cmp.Lexicographic.{pointwise}
use Rattle.literature_values.specs.Initials.{style, initials_of}
use Rattle.literature_values.specs.PersonViews.{Named}
use Rattle.rendering_taxonomy.specs.NameForms.{greater_form}
use Rattle.rendering_tree.specs.Metas.{Answered, Meta, Names, is_person}
use Rattle.rendering_tree.specs.Trees.{Children, elements}
use Rattle.rendering_names.specs.Persons.{given_of}
use Rattle.rendering_people.specs.Properties.{Properties, with_name, with_form, form_at, prints_more}
use Rattle.rendering_context.specs.Cites.{DisambiguateState, undisambiguated, by_names, by_choose, by_suffix, may_change}
use Rattle.driver_requests.specs.Suffixes.{Origin}
use Rattle.driver_names.specs.Prints.{GivenState, given_to, Printed}
use Rattle.rendering_taxonomy.specs.declared.name.DisambiguatedNameForm.{DisambiguatedNameForm}
use Rattle.rendering_taxonomy.specs.declared.name.DisambiguatedNameForm.TheVariants as forms
use Rattle.rendering_taxonomy.specs.declared.style.DisambiguationRule.{DisambiguationRule}
use Rattle.rendering_taxonomy.specs.declared.style.DisambiguationRule.TheVariants as rules

-- the people of a names element; none of another one
abbrev pub people_of_meta : Option Meta → List Named
people_of_meta (Some (Names people)) = flat_map (λ (a : Answered). a.0) people
people_of_meta m = []

-- the people of all names elements of a tree, printed or not
abbrev pub people_in : Children → List Named
people_in tree = flat_map (λ e. people_of_meta e.meta) (elements tree)

-- the initials of a given name; empty where there is none
abbrev pub initials : Named → List ℕ
initials p = initials_of (style [] false) (given_of p)

-- a person with the initials instead of the given name
abbrev pub initialed : Named → Named
initialed p = record p { given_name = option_map (initials_of (style [] false)) p.given_name }

-- a person without the given name
abbrev pub ungiven : Named → Named
ungiven p = record p { given_name = None }

-- A person at an index as it is compared: whole, with initials, or without a given name; some rules look at the given name of the first
-- person alone.
abbrev pub compared : Option DisambiguationRule → ℕ → Named → Named
compared None index p = ungiven p
compared (Some rules.ByCite) index p = p
compared (Some rules.AllNames) index p = p
compared (Some rules.AllNamesWithInitials) index p = initialed p
compared (Some rules.PrimaryName) zero p = p
compared (Some rules.PrimaryName) (suc index) p = ungiven p
compared (Some rules.PrimaryNameWithInitials) zero p = initialed p
compared (Some rules.PrimaryNameWithInitials) (suc index) p = ungiven p

-- the first n people as they are compared
abbrev pub compared_first : Option DisambiguationRule → ℕ → List Named → List Named
compared_first rule n people = take n (map (λ p. compared rule p.0 p.1) (enumerate_from 0 people))

-- A cite of a class: its index there, its people, how much of its names is to be printed, and whether names have disambiguated it from all
-- others.
pub record Member : Type 0 where
  pub index : ℕ
  pub cite : Printed
  pub people : List Named
  pub names : Option Properties
  pub is_distinguished : Bool

-- how much of names a state prints, else how much was printed without one
abbrev pub names_by : DisambiguateState → Option Properties → Option Properties
names_by undisambiguated first = first
names_by (by_names ps) first = Some ps
names_by by_choose first = first
names_by (by_suffix n) first = first

-- how much of its names a cite prints
abbrev pub own_names : Printed → Option Properties
own_names s = names_by s.state s.names

-- a cite of a class before people are compared
abbrev pub member : ℕ × Printed → Member
member (index, s) = record { index = index; cite = s; people = people_in s.tree; names = own_names s; is_distinguished = false }

-- all cites of a class
abbrev pub members : List Printed → List Member
members ss = map member (enumerate_from 0 ss)

-- whether the style of a member says that cites of one entry are not compared with each other
abbrev pub is_by_entry : Member → Bool
is_by_entry m = m.cite.same_entry_is_no_rival

-- whether a member is of an entry, and its style says so
abbrev pub is_of_entry : ℕ → Member → Bool
is_of_entry entry m = is_by_entry m && entry == m.cite.entry

-- whether a member is not compared with another one: it is that itself, or, where its style says so, one of its entry
abbrev pub is_own : Member → Member → Bool
is_own m o = if is_by_entry m then is_of_entry m.cite.entry o else o.index == m.index

-- the members that one is compared with
abbrev pub others : List Member → Member → List Member
others ms m = filter (λ o. not (is_own m o)) ms

-- the rule of a cite's style
abbrev pub rule_for : Member → Option DisambiguationRule
rule_for m = m.cite.rule

-- whether the first n people of two cites are the same, by the rule of the first cite
abbrev pub agrees_on : ℕ → Member → Member → Bool
agrees_on n m o = pointwise is_person (compared_first (rule_for m) n m.people) (compared_first (rule_for m) n o.people)

-- whether names may still change what a cite prints
abbrev pub names_may_change : Member → Bool
names_may_change m = may_change m.cite.state

-- whether the first n people disambiguate a cite from each other one, and fewer did not
abbrev pub is_newly_distinguished : ℕ → List Member → Member → Bool
is_newly_distinguished n ms m = not m.is_distinguished && names_may_change m && not (list_any (agrees_on n m) (others ms m))

-- whether two people have the same family name and are not one
abbrev pub is_namesake : Named → Named → Bool
is_namesake p q = bytes_eq p.name q.name && not (is_person p q)

-- the namesakes of a person in other cites of a class
abbrev pub namesakes : List Member → Member → Named → List Named
namesakes ms m p = filter (is_namesake p) (flat_map (λ o. o.people) (others ms m))

-- the form that disambiguates a person from namesakes: whole where one of them has the same initials, else with initials
abbrev pub form_against : Named → List Named → Option DisambiguatedNameForm
form_against p [] = None
form_against p (q ∷ qs) = Some (if list_any (λ r. bytes_eq (initials r) (initials p)) (q ∷ qs) then forms.LongFull else forms.LongInitialized)

-- a form that is raised to another one; a count is not raised
abbrev pub raised_form : DisambiguatedNameForm → DisambiguatedNameForm → DisambiguatedNameForm
raised_form forms.Count g = forms.Count
raised_form f g = greater_form f g

-- names with the form at an index raised, where there is one
abbrev pub raised_names : ℕ → DisambiguatedNameForm → Properties → Properties
raised_names index g ps = option_map_or (λ f. with_form index (raised_form f g) ps) (form_at index ps) ps

-- the form to which the name of the person at an index is to be raised
abbrev pub form_wanted : List Member → Member → ℕ → Option DisambiguatedNameForm
form_wanted ms m index = option_and_then (λ p. form_against p (namesakes ms m p)) (slice_get m.people index)

-- whether a rule raises names that disambiguate a cite
abbrev pub raises : Option DisambiguationRule → Bool
raises (Some rules.ByCite) = true
raises rule = false

-- a cite with its name at an index raised, where the rule raises names, the person there has a namesake, and the first names have a form
-- at that index
abbrev pub with_raised : List Member → ℕ → Member → Member
with_raised ms index m =
    if raises (rule_for m)
    then record m { names = option_map (λ ps. option_map_or (λ g. raised_names index g ps) (form_wanted ms m index) ps) m.names }
    else m

-- a cite, disambiguated and raised if the people up to an index newly disambiguate it
abbrev pub distinguished_at : List Member → ℕ → Member → Member
distinguished_at ms index m = if is_newly_distinguished (index + 1) ms m then record (with_raised ms index m) { is_distinguished = true } else m

-- a cite that shows at least so many names, if names may still change what it prints
abbrev pub showing_up_to : ℕ → Member → Member
showing_up_to n m = if names_may_change m then record m { names = option_map (with_name n) m.names } else m

-- all cites, where the people up to an index disambiguate some of them
abbrev pub all_shown_up_to : List Member → ℕ → List Member
all_shown_up_to ms index = map (λ m. showing_up_to (index + 1) (distinguished_at ms index m)) ms

-- Where the people up to an index newly disambiguate some cite: that cite's name at it is raised, and all cites show so many names; else
-- all is as before.
abbrev pub distinguished_by : List Member → ℕ → List Member
distinguished_by ms index = if list_any (is_newly_distinguished (index + 1) ms) ms then all_shown_up_to ms index else ms

-- how many people are compared at most: as many as the cite with the most people has, where names are added, else one
abbrev pub people_compared : Bool → List Member → ℕ
people_compared false ms = 1
people_compared true ms = fold max 0 (map (λ m. length m.people) ms)

-- the cites of a class after the first person was compared, then the first two, and so on
abbrev pub distinguished : Bool → List Printed → List Member
distinguished adds_names ss = fold distinguished_by (members ss) (range_with_len 0 (people_compared adds_names (members ss)))

-- the state of an entry of which more of the names is to be printed than before
abbrev pub states_by_names_of : ℕ → Origin → Option Properties → Option Properties → List GivenState
states_by_names_of entry o (Some old) (Some new) = if prints_more new old then given_to entry (by_names new) o ∷ [] else []
states_by_names_of entry o old new = []

-- What names give to the cites of a class.
abbrev pub states_by_names : Bool → Origin → List Printed → List GivenState
states_by_names adds_names o ss = flat_map (λ m. states_by_names_of m.cite.entry o (own_names m.cite) m.names) (distinguished adds_names ss)
