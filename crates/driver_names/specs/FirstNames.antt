-- Given names that a rule prints before cites are compared.
use Rattle.std.specs.Prelude.{ℕ, Bool, true, false, ◌&&◌, List, map, fold, take, if◌then◌else◌}
use Rattle.std.specs.List.{enumerate_from, flat_map, list_any}
use Rattle.std.specs.Option.{option_map, option_map_or}
use Rattle.literature_values.specs.PersonViews.{Named}
use Rattle.rendering_people.specs.Properties.{Properties, form_at, with_form}
use Rattle.driver_requests.specs.Suffixes.{Origin}
use Rattle.driver_names.specs.Prints.{GivenState, Printed}
use Rattle.driver_names.specs.Names.{Member, is_namesake, member, states_by_names_of}
use Rattle.driver_names.specs.Namesakes.{all_people}
use Rattle.driver_names.specs.NamesViews.{is_alike_namesake}
use Rattle.rendering_taxonomy.specs.declared.name.DisambiguatedNameForm.{DisambiguatedNameForm}
use Rattle.rendering_taxonomy.specs.declared.name.DisambiguatedNameForm.TheVariants as forms
use Rattle.rendering_taxonomy.specs.declared.style.DisambiguationRule.{DisambiguationRule}
use Rattle.rendering_taxonomy.specs.declared.style.DisambiguationRule.TheVariants as rules

-- whether a rule prints whole given names
abbrev pub prints_whole : DisambiguationRule → Bool
prints_whole rules.ByCite = true
prints_whole rules.AllNames = true
prints_whole rules.AllNamesWithInitials = false
prints_whole rules.PrimaryName = true
prints_whole rules.PrimaryNameWithInitials = false

-- whether a rule prints the given name of the first person alone
abbrev pub is_primary : DisambiguationRule → Bool
is_primary rules.ByCite = false
is_primary rules.AllNames = false
is_primary rules.AllNamesWithInitials = false
is_primary rules.PrimaryName = true
is_primary rules.PrimaryNameWithInitials = true

-- the people of a cite whose given names a rule prints
abbrev pub named_by : DisambiguationRule → List Named → List Named
named_by rule people = if is_primary rule then take 1 people else people

-- A form by which a person is disambiguated from namesakes, of whom some have the same initials or none: with initials, where the style has
-- initials and no namesake has the same; else whole, where the rule prints whole names; else as it was.
abbrev pub disambiguated_form : Bool → Bool → DisambiguatedNameForm → DisambiguatedNameForm
disambiguated_form whole true forms.ShortInitialized = if whole then forms.LongFull else forms.ShortInitialized
disambiguated_form whole false forms.ShortInitialized = forms.LongInitialized
disambiguated_form whole alike forms.ShortFull = if whole then forms.LongFull else forms.ShortFull
disambiguated_form whole alike forms.LongInitialized = if whole && alike then forms.LongFull else forms.LongInitialized
disambiguated_form whole alike f = f

-- the form of a person, disambiguated where some of these people are namesakes
abbrev pub form_first : DisambiguationRule → List Named → Named → DisambiguatedNameForm → DisambiguatedNameForm
form_first rule all p f =
    if list_any (is_namesake p) all
    then disambiguated_form (prints_whole rule) (list_any (is_alike_namesake p) all) f
    else f

-- names with the person at an index disambiguated, where there is a form at that index
abbrev pub disambiguated_at : DisambiguationRule → List Named → Properties → ℕ × Named → Properties
disambiguated_at rule all ps (index, p) = option_map_or (λ f. with_form index (form_first rule all p f) ps) (form_at index ps) ps

-- names with each of some people disambiguated
abbrev pub disambiguated_names : DisambiguationRule → List Named → List Named → Properties → Properties
disambiguated_names rule all people ps = fold (disambiguated_at rule all) ps (enumerate_from 0 people)

-- a cite of a document by its index, with the people whose given names a rule prints
abbrev pub named_member : DisambiguationRule → ℕ × Printed → Member
named_member rule p = record (member p) { people = named_by rule (member p).people }

-- all cites of a document
abbrev pub named_members : DisambiguationRule → List Printed → List Member
named_members rule ss = map (named_member rule) (enumerate_from 0 ss)

-- what gives these names
abbrev pub first_origin : Origin
first_origin = record { round = 0; class = 0 }

-- the state of the entry of a cite of whose names more is printed so
abbrev pub disambiguated_state : DisambiguationRule → List Named → Member → List GivenState
disambiguated_state rule all m =
    states_by_names_of m.cite.entry first_origin m.names (option_map (disambiguated_names rule all m.people) m.names)

-- What a rule gives to the entries of cites before these are compared: of each cite the names that a rule prints, disambiguated from
-- those of all cites of the document.
abbrev pub first_names : DisambiguationRule → List Printed → List GivenState
first_names rule ss = let ms = named_members rule ss in flat_map (disambiguated_state rule (all_people ms)) ms
