-- Namesakes among the people of the cites of a class, by how many people have each name, and the forms that disambiguate people from them.
use Rattle.std.specs.Prelude.{◌≡◌, ℕ, ◌+◌, ◌<◌, ◌≤◌, Bool, true, not, ◌&&◌, nat_eq, nat_lt, List, [], ◌++◌, map, filter, length, get_or, slice_get, count_by, if◌then◌else◌, Option, Some, None}
use Rattle.std.specs.List.{flat_map}
use Rattle.std.specs.Option.{option_and_then, option_eq}
use Rattle.std.specs.Str.{bytes_eq}
use Rattle.literature_values.specs.PersonViews.{Named}
use Rattle.rendering_tree.specs.Metas.{is_person}
use Rattle.driver_names.specs.Keys.{tallied}
use Rattle.driver_names.specs.Names.{Member, form_wanted, initials, is_by_entry, is_namesake, is_newly_distinguished, is_of_entry, names_may_change, raises, rule_for}
use Rattle.driver_names.specs.NamesViews.{form_raised, is_alike_namesake}
use Rattle.driver_names.specs.Shared.{compared_name_view, shared_people}
use Rattle.driver_names.specs.declared.names_compared.ComparedName.{ComparedName}
use Rattle.driver_names.specs.declared.names_members.Distinction.{Distinction}
use Rattle.driver_names.specs.declared.namesakes.NameCounts.{NameCounts}
use Rattle.driver_names.specs.declared.namesakes.NamePart.{NamePart}
use Rattle.driver_names.specs.declared.namesakes.NamePart.TheVariants as parts
use Rattle.driver_names.specs.declared.same_keys.Tally.{Tally}
use Rattle.rendering_taxonomy.specs.declared.name.DisambiguatedNameForm.{DisambiguatedNameForm}
use Rattle.rendering_taxonomy.specs.declared.name.DisambiguatedNameForm.TheVariants as forms

-- the people of all cites
abbrev pub all_people : List Member → List Named
all_people ms = flat_map (λ o. o.people) ms

-- these, or those of the cites of one entry whose styles do not compare them with each other
abbrev pub people_within : Option ℕ → List Member → List Named
people_within None ms = all_people ms
people_within (Some entry) ms = all_people (filter (is_of_entry entry) ms)

-- the people of the cites that a cite is not compared with: its own, or those of all cites of its entry
abbrev pub own_people : List Member → Member → List Named
own_people ms m = if is_by_entry m then people_within (Some m.cite.entry) ms else m.people

-- the family name of a person, with another given name and no affixes
abbrev pub family : Named → Option (List ℕ) → Named
family p given = record { name = p.name; given_name = given; prefix = None; suffix = None }

-- a part of the name of a person
abbrev pub part_of : NamePart → Named → Named
part_of parts.Family p = family p None
part_of parts.FamilyAndInitials p = family p (Some (initials p))
part_of parts.Whole p = p

-- whether that part of the names of two people is the same
abbrev pub has_same : NamePart → Named → Named → Bool
has_same parts.Family p q = bytes_eq p.name q.name
has_same parts.FamilyAndInitials p q = bytes_eq p.name q.name && bytes_eq (initials p) (initials q)
has_same parts.Whole p q = is_person p q

-- whether two names as they are compared are the same
abbrev pub is_same_name : ComparedName → ComparedName → Bool
is_same_name c d = is_person (compared_name_view c) (compared_name_view d)

-- a name as it is compared, among all people or those of one entry
abbrev pub scoped_view : Option ℕ × ComparedName → Option ℕ × Named
scoped_view k = (k.0, compared_name_view k.1)

-- whether two such names are the same
abbrev pub is_same_scoped : Option ℕ × ComparedName → Option ℕ × ComparedName → Bool
is_same_scoped k l = option_eq nat_eq k.0 l.0 && is_same_name k.1 l.1

-- a part of the names of people, among all people or those of one entry
abbrev pub parts_within : NamePart → Option ℕ → List Named → List (Option ℕ × Named)
parts_within part scope people = map (λ p. (scope, part_of part p)) people

-- those of the people of a cite among those of its entry, where its style asks for that
abbrev pub own_parts : NamePart → Member → List (Option ℕ × Named)
own_parts part m = if is_by_entry m then parts_within part (Some m.cite.entry) m.people else []

-- those of the people of a cite among all people, and among those of its entry
abbrev pub scoped_parts : NamePart → Member → List (Option ℕ × Named)
scoped_parts part m = parts_within part None m.people ++ own_parts part m

-- a tally says of a part of names how many people have the same
abbrev pub IsCount : NamePart → Tally (Option ℕ × ComparedName) → List Member → Type 0
IsCount part counts ms =
    (scope : Option ℕ) (c : ComparedName) (p : Named) → compared_name_view c ≡ part_of part p → tallied is_same_scoped counts (scope, c) ≡ count_by (has_same part p) (people_within scope ms)

-- three tallies say so of the parts of names
abbrev pub AreCounts : NameCounts → List Member → Type 0
AreCounts c ms = IsCount parts.Family c.families ms × IsCount parts.FamilyAndInitials c.initialed ms × IsCount parts.Whole c.whole ms

-- whether more people pass a test than in the cites that a cite is not compared with
abbrev pub has_more : (Named → Bool) → List Member → Member → Bool
has_more test ms m = nat_lt (count_by test (own_people ms m)) (count_by test (all_people ms))

-- the form that disambiguates a person of a cite from namesakes, where there are some in cites that it is compared with
abbrev pub form_among : List Member → Member → Named → Option DisambiguatedNameForm
form_among ms m p =
    if has_more (is_alike_namesake p) ms m then Some forms.LongFull else if has_more (is_namesake p) ms m then Some forms.LongInitialized else None

-- the form that disambiguates the person of a cite at an index from namesakes
abbrev pub form_at : List Member → ℕ → Member → Option DisambiguatedNameForm
form_at ms index m = option_and_then (form_among ms m) (slice_get m.people index)

-- whether the rule of a cite raises names, and the first person that it shares with no other one is compared
abbrev pub is_raised : ℕ → ℕ → Member → Bool
is_raised most shared m = raises (rule_for m) && nat_lt shared most

-- the form to which the name of that person is raised, by how many people have each name
abbrev pub form_counted : List Member → ℕ → ℕ → Member → Option DisambiguatedNameForm
form_counted ms most shared m = if is_raised most shared m then form_at ms shared m else None

-- whether the name of the first person that a cite shares with no other one may be raised
abbrev pub is_raised_after : ℕ → List Member → Member → Bool
is_raised_after most ms m = is_raised most (shared_people most ms m) m

-- the form to which the name of that person is raised, where it may be
abbrev pub form_after : ℕ → List Member → Member → Option DisambiguatedNameForm
form_after most ms m = if is_raised_after most ms m then form_wanted ms m (shared_people most ms m) else None

-- these forms of all cites
abbrev pub forms_after : ℕ → List Member → List (Option DisambiguatedNameForm)
forms_after most ms = map (form_after most ms) ms

-- whether names have not disambiguated a cite, and may still change what it prints
abbrev pub may_be_distinguished : Member → Bool
may_be_distinguished m = not m.is_distinguished && names_may_change m

-- the cites that may still be disambiguated share as many people with others as an index has before it
abbrev pub SharePeopleBefore : ℕ → ℕ → List Member → Type 0
SharePeopleBefore most index ms = (i : ℕ) (d : Member) → i < length ms → may_be_distinguished (get_or ms i d) ≡ true → index ≤ shared_people most ms (get_or ms i d)

-- forms are those to which the names at an index are raised of the cites that the people up to it newly disambiguate
abbrev pub AreFormsAt : ℕ → List Member → List (Option DisambiguatedNameForm) → Type 0
AreFormsAt index ms forms =
    (i : ℕ) (d : Member) (e : Option DisambiguatedNameForm) → i < length ms → is_newly_distinguished (index + 1) ms (get_or ms i d) ≡ true → get_or forms i e ≡ form_raised ms index (get_or ms i d)

-- what is found of a cite that shares so many people with another one, by a form
abbrev pub distinction_of : ℕ → ℕ → Option DisambiguatedNameForm → Member → Option Distinction
distinction_of index shared form m = if may_be_distinguished m && not (nat_lt index shared) then Some (record { form = form }) else None
