-- States of disambiguation: what disambiguates the cites of an entry, one for each cited entry.
use Rattle.std.specs.Prelude.{ℕ, Bool, false, ◌==◌, ◌&&◌, nat_le, List, map, filter, find, replicate, slice_index_or, Option, Some, None}
use Rattle.std.specs.List.{list_any, enumerate_from, reduce}
use Rattle.std.specs.Option.{option_and_then, option_map, option_map_or, unwrap_or}
use Rattle.rendering_context.specs.Cites.{DisambiguateState, undisambiguated, by_names, by_choose, by_suffix, greater_state}
use Rattle.driver_requests.specs.Suffixes.{Suffix}
use Rattle.driver_names.specs.Prints.{GivenState}

-- the state of each cited entry, by its index
abbrev pub States : Type 0
States = List DisambiguateState

-- no entry is disambiguated yet
abbrev pub undisambiguated_states : ℕ → States
undisambiguated_states n = replicate n undisambiguated

-- the state of the entry at an index
abbrev pub state_of : States → ℕ → DisambiguateState
state_of states entry = slice_index_or states entry undisambiguated

-- whether a state is given to the entry at an index
abbrev pub is_given_to : ℕ → GivenState → Bool
is_given_to entry g = g.entry == entry

-- the greatest of all states that are given to an entry; of equally great ones the last
abbrev pub joined_for : ℕ → List GivenState → Option DisambiguateState
joined_for entry gs = reduce greater_state (map (λ g. g.state) (filter (is_given_to entry) gs))

-- The states after a round: the one that it gave to an entry, instead of the one that the entry had.
abbrev pub states_after : List GivenState → States → States
states_after gs states = map (λ p. unwrap_or (joined_for p.0 gs) p.1) (enumerate_from 0 states)

-- the index of the year suffix that a state is
abbrev pub suffix_index : DisambiguateState → Option ℕ
suffix_index undisambiguated = None
suffix_index (by_names ps) = None
suffix_index by_choose = None
suffix_index (by_suffix n) = Some n

-- whether a state is the year suffix at an index
abbrev pub is_suffix : ℕ → DisambiguateState → Bool
is_suffix n state = option_map_or (λ m. m == n) (suffix_index state) false

-- the first that gave an entry this year suffix
abbrev pub giver_of : ℕ → ℕ → List GivenState → Option GivenState
giver_of n entry gs = find (λ g. is_given_to entry g && is_suffix n g.state) gs

-- the year suffix at an index, with the first that gave it to an entry
abbrev pub suffix_given : ℕ → List GivenState → ℕ → Option Suffix
suffix_given entry gs n = option_map (λ g. record { index = n; origin = g.origin }) (giver_of n entry gs)

-- the year suffix of an entry with this state, and what gave it
abbrev pub suffix_by : DisambiguateState → ℕ → List GivenState → Option Suffix
suffix_by state entry gs = option_and_then (suffix_given entry gs) (suffix_index state)

-- whether a state is a year suffix after the last one, the 256th
abbrev pub is_beyond : DisambiguateState → Bool
is_beyond state = option_map_or (nat_le 256) (suffix_index state) false

-- whether some entry was given a year suffix after the last one
abbrev pub suffixes_overflow : List GivenState → Bool
suffixes_overflow gs = list_any (λ g. is_beyond g.state) gs
