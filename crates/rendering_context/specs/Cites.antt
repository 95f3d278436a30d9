-- What is known of a cite beside its entry.
use Rattle.std.specs.Prelude.{ℕ, Bool, nat_lt, max, List, [], if◌then◌else◌, Option}
use Rattle.rendering_people.specs.Properties.{Properties, greater}
use Rattle.rendering_numbers.specs.SuffixesAndLabels.{year_suffix_text}
use Rattle.rendering_taxonomy.specs.declared.cite.IbidState.{IbidState}
use Rattle.rendering_taxonomy.specs.declared.cite.IdentifierUsage.{IdentifierUsage}
use Rattle.rendering_taxonomy.specs.declared.locator.Locator.{Locator}

-- a text, or a locator of the caller's own, which is printed by the caller
pub data Payload : Type 0 where
  written : List ℕ → Payload
  transparent : Payload

-- the part of a work that is cited: what it counts, and its text
pub record SpecificLocator : Type 0 where
  pub label : Locator
  pub payload : Payload

-- The state of disambiguation of a cite: none, more of its names, other branches of the style, or a year suffix.
pub data DisambiguateState : Type 0 where
  undisambiguated : DisambiguateState
  by_names : Properties → DisambiguateState
  by_choose : DisambiguateState
  by_suffix : ℕ → DisambiguateState

-- The number of the note that it stands in and of the one where its entry stood first, whether it stands near it, whether its entry was
-- cited before, its index in the request, its locator, the index of its entry among all that are cited, how it stands to the cite
-- before it, its state of disambiguation, which identifiers the entry's cites printed, and how much of its first names is printed
-- before cites are compared.
pub record CiteProperties : Type 0 where
  pub note_number : Option ℕ
  pub first_note_number : Option ℕ
  pub is_near_note : Bool
  pub is_first : Bool
  pub initial_idx : ℕ
  pub locator : Option SpecificLocator
  pub citation_number : ℕ
  pub ibid : IbidState
  pub disambiguation : DisambiguateState
  pub identifier_usage : IdentifierUsage
  pub first_names : Properties

-- the year suffix, where there is one
abbrev pub year_suffix_of : DisambiguateState → List ℕ
year_suffix_of undisambiguated = []
year_suffix_of (by_names ps) = []
year_suffix_of by_choose = []
year_suffix_of (by_suffix n) = year_suffix_text n

-- the properties of names that disambiguate a cite
abbrev pub names_of : DisambiguateState → Properties
names_of undisambiguated = []
names_of (by_names ps) = ps
names_of by_choose = []
names_of (by_suffix n) = []

-- the order of states of disambiguation, from the least on
abbrev pub state_rank : DisambiguateState → ℕ
state_rank undisambiguated = 0
state_rank (by_names ps) = 1
state_rank by_choose = 2
state_rank (by_suffix n) = 3

-- of two states of one kind: the greater properties, or the greater suffix
abbrev pub greater_of_kind : DisambiguateState → DisambiguateState → DisambiguateState
greater_of_kind (by_names ps) (by_names qs) = by_names (greater ps qs)
greater_of_kind (by_suffix m) (by_suffix n) = by_suffix (max m n)
greater_of_kind a b = b

-- the greater of two states
abbrev pub greater_state : DisambiguateState → DisambiguateState → DisambiguateState
greater_state a b = if nat_lt (state_rank b) (state_rank a) then a else (if nat_lt (state_rank a) (state_rank b) then b else greater_of_kind a b)

-- whether names and branches may still change it
abbrev pub may_change : DisambiguateState → Bool
may_change a = nat_lt (state_rank a) 2

-- whether a year suffix may still be given
abbrev pub allows_suffix : DisambiguateState → Bool
allows_suffix a = nat_lt (state_rank a) 3
