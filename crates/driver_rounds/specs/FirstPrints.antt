-- Cites from their numbers to their states of disambiguation.
use Rattle.std.specs.Prelude.{ℕ, Bool, false, ◌&&◌, ◌||◌, List, [], ◌∷◌, map, length, is_some, if◌then◌else◌, Option, Some, None}
use Rattle.std.specs.List.{list_any, flat_map}
use Rattle.std.specs.Option.{option_map}
use Rattle.rendering_entries.specs.Answers.{Answers}
use Rattle.rendering_context.specs.Choosing.{is_ibid}
use Rattle.rendering_context.specs.Cites.{DisambiguateState, undisambiguated, names_of}
use Rattle.rendering_style.specs.Styles.{Citation}
use Rattle.rendering_people.specs.Properties.{Properties, raised_to}
use Rattle.rendering.specs.Purposes.{citation}
use Rattle.rendering.specs.Purposes as purposes
use Rattle.driver_requests.specs.Requests.{Request}
use Rattle.driver_requests.specs.Cites.{Cite, Numbered, cites_of, entry_of, properties_of}
use Rattle.driver_requests.specs.Positions.{ibid_of, place_of, counts_at_first, with_previous}
use Rattle.driver_requests.specs.Order.{cited}
use Rattle.driver_names.specs.FirstNames.{first_names}
use Rattle.driver_names.specs.Prints as prints
use Rattle.driver_names.specs.Prints.{printed_as}
use Rattle.driver_disambiguation.specs.States.{States, state_of, states_after, undisambiguated_states}
use Rattle.driver_disambiguation.specs.Rounds.{Disambiguation, disambiguated, names_given}
use Rattle.driver_rounds.specs.Documents.{Document, number_of}
use Rattle.rendering_taxonomy.specs.declared.cite.CitePurpose.{CitePurpose}
use Rattle.rendering_taxonomy.specs.declared.cite.CitePurpose.TheVariants as cite_purposes
use Rattle.rendering_taxonomy.specs.declared.cite.IbidState.{IbidState}
use Rattle.rendering_taxonomy.specs.declared.style.DisambiguationRule.{DisambiguationRule}
use Rattle.rendering_taxonomy.specs.declared.variable.DateVariable.{DateVariable}
use Rattle.rendering_taxonomy.specs.declared.variable.DateVariable.TheVariants as date

-- all of some lists one after the other
abbrev pub flattened : {X : Type 0} → List (List X) → List X
flattened xss = flat_map (λ xs. xs) xss

-- the purpose for which a cite is printed until states are final: a cite for its year is printed whole
abbrev pub purpose_at_first : Option CitePurpose → Option CitePurpose
purpose_at_first None = None
purpose_at_first (Some cite_purposes.Author) = Some cite_purposes.Author
purpose_at_first (Some cite_purposes.Year) = None
purpose_at_first (Some cite_purposes.Full) = Some cite_purposes.Full
purpose_at_first (Some cite_purposes.Prose) = Some cite_purposes.Prose

-- what a cite prints by a state, without its locator
abbrev pub printed_by : {P : Type 0} → Numbered P → DisambiguateState → purposes.Rendered
printed_by p state = citation p.cite.context p.cite.item.entry.answers (properties_of p state) None (purpose_at_first p.cite.item.purpose) None

-- A cite, and what it prints undisambiguated.
pub record FirstPrint (P : Type 0) : Type 0 where
  pub numbered : Numbered P
  pub rendered : purposes.Rendered

-- a cite with its number, and its ibid state after the one before it as written
abbrev pub numbered_after : {P : Type 0} → (P → P → Bool) → Document P → Option (Cite P) × Cite P → Numbered P
numbered_after same d (last, c) = record {
  cite = c;
  number = number_of d (entry_of c);
  ibid = ibid_of same counts_at_first (option_map place_of last) c;
  first_names = [];
}

-- the first print of a cite
abbrev pub first_print : {P : Type 0} → Numbered P → FirstPrint P
first_print p = record { numbered = p; rendered = printed_by p undisambiguated }

-- the index of the entry that a cite is of
abbrev pub entry_of_first : {P : Type 0} → FirstPrint P → ℕ
entry_of_first b = entry_of b.numbered.cite

-- the dates that make year suffixes possible
abbrev pub suffix_dates : List DateVariable
suffix_dates = date.Issued ∷ date.Accessed ∷ date.AvailableDate ∷ date.EventDate ∷ date.Submitted ∷ date.OriginalDate ∷ []

-- whether an entry has one of them
abbrev pub has_suffix_date : Answers → Bool
has_suffix_date a = list_any (λ v. is_some (a.date v)) suffix_dates

-- whether a cite repeats the one before it, in a style that lets such cites be alike to none
abbrev pub repeats_by : Citation → IbidState → Bool
repeats_by c ibid = is_ibid ibid && c.ibid_after_one

-- a cite as it is to be disambiguated
abbrev pub candidate : {P : Type 0} → FirstPrint P → prints.Candidate
candidate b = record {
  entry = entry_of_first b;
  number = b.numbered.number;
  has_date = has_suffix_date b.numbered.cite.item.entry.answers;
  style = b.numbered.cite.context.style.citation;
  repeats = repeats_by b.numbered.cite.context.style.citation b.numbered.ibid;
  printed = λ state. (printed_by b.numbered state).tree;
  met_disambiguate = b.rendered.met_disambiguate;
  names = option_map (raised_to b.numbered.first_names) b.rendered.names;
}

-- a cite that is to be disambiguated, as it prints undisambiguated
abbrev pub printed_undisambiguated : {P : Type 0} → Numbered P → prints.Printed
printed_undisambiguated p = printed_as (candidate (first_print p)) undisambiguated (printed_by p undisambiguated).tree

-- the cites of each request with their numbers
abbrev pub numbered_in : {P : Type 0} → (P → P → Bool) → Document P → List (List (Numbered P))
numbered_in same d = map (map (numbered_after same d)) (with_previous None (cites_of d.requests))

-- How names are printed before cites are compared: the rule by which given names are, where a style says so; and whether more people are
-- shown in alike cites, where what names give to these stays beside year suffixes and in other branches.
abbrev pub FirstNaming : Type 0
FirstNaming = Option DisambiguationRule × Option Bool

-- whether what names give to alike cites stays: in a style in which names are compared with those of other entries alone, and which adds
-- names or given names
abbrev pub keeps_names : Citation → Bool
keeps_names c = c.same_entry_is_no_rival && (c.add_names || c.add_givenname)

-- the rule by which a style prints given names first, where it says so
abbrev pub rule_in : Citation → Option DisambiguationRule
rule_in c = if c.raises_names_first then Some c.givenname_rule else None

-- whether a style shows more people in alike cites, where that stays
abbrev pub kept_in : Citation → Option Bool
kept_in c = if keeps_names c then Some c.add_names else None

-- how a style prints names before cites are compared
abbrev pub naming_in : Citation → FirstNaming
naming_in c = (rule_in c, kept_in c)

-- names are printed as the options of styles say
abbrev pub no_naming : FirstNaming
no_naming = (None, None)

-- how names are printed before cites are compared: as the style of the first request says
abbrev pub first_naming : {P : Type 0} → List (Request P) → FirstNaming
first_naming [] = no_naming
first_naming (r ∷ rs) = naming_in r.context.style.citation

-- how much of its first names a cite prints before cites are compared: by states, where there are some
abbrev pub names_by : {P : Type 0} → Option States → Numbered P → Properties
names_by None n = n.first_names
names_by (Some states) n = names_of (state_of states (entry_of n.cite))

-- a cite with these names
abbrev pub with_first_names : {P : Type 0} → Option States → Numbered P → Numbered P
with_first_names states n = record n { first_names = names_by states n }

-- the states by a rule of so many entries, from what all cites print undisambiguated
abbrev pub ruled_states : {P : Type 0} → Option DisambiguationRule → ℕ → List (Numbered P) → Option States
ruled_states rule count ns = option_map (λ r. states_after (first_names r (map printed_undisambiguated ns)) (undisambiguated_states count)) rule

-- the states of so many entries; where there are none yet, they are not disambiguated
abbrev pub states_or : ℕ → Option States → States
states_or count None = undisambiguated_states count
states_or count (Some states) = states

-- what cites print undisambiguated, with first names by states
abbrev pub printed_with : {P : Type 0} → Option States → List (Numbered P) → List prints.Printed
printed_with states ns = map printed_undisambiguated (map (with_first_names states) ns)

-- the states by what names give to cites that print so by states, of which some may be there
abbrev pub kept_states : Bool → ℕ → Option States → List prints.Printed → States
kept_states adds_names count named ss = states_after (names_given adds_names ss) (states_or count named)

-- the same, where what names give stays; else the states that are there
abbrev pub kept_where : Option Bool → ℕ → Option States → List prints.Printed → Option States
kept_where None count named ss = named
kept_where (Some adds_names) count named ss = Some (kept_states adds_names count named ss)

-- the states by the names that are printed before cites are compared: by a rule, and then, where it stays, by what names give to cites that
-- print alike with these
abbrev pub states_by_naming : {P : Type 0} → Option Bool → Option DisambiguationRule → ℕ → List (Numbered P) → Option States
states_by_naming kept rule count ns = let named = ruled_states rule count ns in kept_where kept count named (printed_with named ns)

-- the same, by how names are printed first
abbrev pub first_states : {P : Type 0} → FirstNaming → ℕ → List (Numbered P) → Option States
first_states naming count ns = states_by_naming naming.1 naming.0 count ns

-- these states in a document
abbrev pub first_states_in : {P : Type 0} → (P → P → Bool) → Document P → Option States
first_states_in same d = first_states (first_naming d.requests) (length (cited d.requests)) (flattened (numbered_in same d))

-- a cite with its number, its ibid state after the one before it, and its first names
abbrev pub named_after : {P : Type 0} → (P → P → Bool) → Document P → Option (Cite P) × Cite P → Numbered P
named_after same d pair = with_first_names (first_states_in same d) (numbered_after same d pair)

-- the cites of each request as they print before they are compared
abbrev pub named_in : {P : Type 0} → (P → P → Bool) → Document P → List (List (Numbered P))
named_in same d = map (map (named_after same d)) (with_previous None (cites_of d.requests))

-- the first prints of the cites of each request
abbrev pub first_prints_in : {P : Type 0} → (P → P → Bool) → Document P → List (List (FirstPrint P))
first_prints_in same d = map (map (λ pair. first_print (named_after same d pair))) (with_previous None (cites_of d.requests))

-- whether the style of the first request adds names; without requests none does
abbrev pub adds_names : {P : Type 0} → List (Request P) → Bool
adds_names [] = false
adds_names (r ∷ rs) = r.context.style.citation.add_names

-- the states of the cited entries, from all cites after their first print
abbrev pub disambiguated_in : {P : Type 0} → Document P → List (List (FirstPrint P)) → Disambiguation
disambiguated_in d bs = disambiguated (adds_names d.requests) (length (cited d.requests)) (map candidate (flattened bs))
