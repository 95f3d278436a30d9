-- Cites as they print by a state of disambiguation, and states that are given to their entries.
use Rattle.std.specs.Prelude.{ℕ, Bool, not, ◌&&◌, ◌||◌, List, is_some, if◌then◌else◌, Option, Some, None}
use Rattle.rendering_tree.specs.Metas as metas
use Rattle.rendering_tree.specs.Trees.{Children, element_with, names_element}
use Rattle.rendering_tree.specs.Writing.{plain_text}
use Rattle.rendering_style.specs.Styles.{Citation}
use Rattle.rendering_people.specs.Properties.{Properties}
use Rattle.rendering_context.specs.Cites.{DisambiguateState, allows_suffix}
use Rattle.driver_requests.specs.Suffixes.{Origin}
use Rattle.rendering_taxonomy.specs.declared.style.DisambiguationRule.{DisambiguationRule}

-- A cite that is to be disambiguated: its entry by its index, the number of that, whether it has a date, its style, and whether it repeats
-- the cite before it in a style that lets such cites be alike to none. `printed` is what it prints by a state, without its locator. Of what
-- it prints undisambiguated: whether the test `disambiguate` was evaluated, and how much of its first names element it printed, by its
-- style and with its first names.
pub record Candidate : Type 0 where
  pub entry : ℕ
  pub number : ℕ
  pub has_date : Bool
  pub style : Citation
  pub repeats : Bool
  pub printed : DisambiguateState → Children
  pub met_disambiguate : Bool
  pub names : Option Properties

-- the rule by which given names are compared, where a style adds them
abbrev pub rule_of : Citation → Option DisambiguationRule
rule_of c = if c.add_givenname then Some c.givenname_rule else None

-- A cite at the start of a round. Of its candidate: the entry, its number, whether it has a date, the rule by which its style compares
-- given names, what else the style says of disambiguation, whether it repeats the cite before it, and what is known of its print
-- undisambiguated. `tree` and `text` are what it prints by its state.
pub record Printed : Type 0 where
  pub entry : ℕ
  pub number : ℕ
  pub has_date : Bool
  pub rule : Option DisambiguationRule
  pub adds_suffix : Bool
  pub first_chooses_too : Bool
  pub same_entry_is_no_rival : Bool
  pub suffixes_by_number : Bool
  pub repeats : Bool
  pub met_disambiguate : Bool
  pub names : Option Properties
  pub state : DisambiguateState
  pub tree : Children
  pub text : List ℕ

-- a cite that prints a tree by its state
abbrev pub printed_as : Candidate → DisambiguateState → Children → Printed
printed_as c state tree = record {
  entry = c.entry;
  number = c.number;
  has_date = c.has_date;
  rule = rule_of c.style;
  adds_suffix = c.style.add_year_suffix;
  first_chooses_too = c.style.first_chooses_too;
  same_entry_is_no_rival = c.style.same_entry_is_no_rival;
  suffixes_by_number = c.style.suffixes_by_number;
  repeats = c.repeats;
  met_disambiguate = c.met_disambiguate;
  names = c.names;
  state = state;
  tree = tree;
  text = plain_text tree;
}

-- whether a cite prints a date, or a label while its entry has a date
abbrev pub prints_date : Printed → Bool
prints_date s = is_some (element_with metas.Date s.tree) || (is_some (element_with metas.CitationLabel s.tree) && s.has_date)

-- whether a tree has people or a date
abbrev pub has_names_or_date : Children → Bool
has_names_or_date tree = is_some (names_element tree) || is_some (element_with metas.Date tree)

-- Whether a cite means what the cite before it means and says no more of it: it repeats that, and prints neither people nor a date, as
-- `ibid.` does.
abbrev pub only_repeats : Printed → Bool
only_repeats s = s.repeats && not (has_names_or_date s.tree)

-- whether a cite may be alike to cites of other entries: it may still be given a year suffix, and does not only repeat the cite before it
abbrev pub may_be_alike : Printed → Bool
may_be_alike s = allows_suffix s.state && not (only_repeats s)

-- A state that a class gives to an entry, with the round and the class.
pub record GivenState : Type 0 where
  pub entry : ℕ
  pub state : DisambiguateState
  pub origin : Origin

-- a state that is given to the entry at an index
abbrev pub given_to : ℕ → DisambiguateState → Origin → GivenState
given_to entry state origin = record { entry = entry; state = state; origin = origin }
