-- How the code disambiguates the cites of a class by names: its cites without where they lie in memory, and what it finds of each.
use Rattle.std.specs.Prelude.{ℕ, ◌+◌, Bool, true, ◌&&◌, List, map, if◌then◌else◌, Option, Some, None}
use Rattle.std.specs.Option.{option_map, option_map_or}
use Rattle.std.specs.Str.{bytes_eq}
use Rattle.literature_values.specs.PersonViews.{Named}
use Rattle.rendering_people.specs.Properties.{Properties}
use Rattle.driver_requests.specs.Suffixes.{Origin}
use Rattle.driver_names.specs.Prints.{GivenState}
use Rattle.driver_names.specs.Names as names
use Rattle.driver_names.specs.Names.{form_wanted, initials, is_namesake, is_newly_distinguished, states_by_names_of, own_names, raised_names, raises, rule_for, showing_up_to}
use Rattle.driver_names.specs.Views.{printed_view}
use Rattle.driver_names.specs.declared.names_members.Distinction.{Distinction}
use Rattle.driver_names.specs.declared.names_members.Member.{Member}
use Rattle.rendering_taxonomy.specs.declared.name.DisambiguatedNameForm.{DisambiguatedNameForm}

-- a cite of a class
abbrev pub member_view : Member → names.Member
member_view m = record { index = m.index; cite = printed_view m.cite.now; people = m.people.items; names = m.names; is_distinguished = m.is_distinguished }

-- the cites of a class
abbrev pub members_view : List Member → List names.Member
members_view ms = map member_view ms

-- whether two people are namesakes and have the same initials
abbrev pub is_alike_namesake : Named → Named → Bool
is_alike_namesake p q = is_namesake p q && bytes_eq (initials q) (initials p)

-- the form to which the name of the person at an index is raised, where the rule raises names
abbrev pub form_raised : List names.Member → ℕ → names.Member → Option DisambiguatedNameForm
form_raised ms index m = if raises (rule_for m) then form_wanted ms m index else None

-- what is found of a cite that the people up to an index newly disambiguate
abbrev pub distinction : List names.Member → ℕ → names.Member → Option Distinction
distinction ms index m = if is_newly_distinguished (index + 1) ms m then Some (record { form = form_raised ms index m }) else None

-- names with the form at an index raised to another one, where there are both
abbrev pub raised_if : ℕ → Option DisambiguatedNameForm → Option Properties → Option Properties
raised_if index form names = option_map (λ ps. option_map_or (λ g. raised_names index g ps) form ps) names

-- a cite that the people up to an index may disambiguate
abbrev pub with_distinction : ℕ → Option Distinction → names.Member → names.Member
with_distinction index None m = m
with_distinction index (Some d) m = record m { names = raised_if index d.form m.names; is_distinguished = true }

-- a cite that the people up to an index may disambiguate, showing at least the names up to that index
abbrev pub shown_with : ℕ → Option Distinction → names.Member → names.Member
shown_with index d m = showing_up_to (index + 1) (with_distinction index d m)

-- the state of an entry of which more of the names is to be printed than before
abbrev pub state_of_member : Origin → names.Member → List GivenState
state_of_member o m = states_by_names_of m.cite.entry o (own_names m.cite) m.names
