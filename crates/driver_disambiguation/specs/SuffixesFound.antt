-- Year suffixes of entries, found among what rounds gave.
use Rattle.std.specs.Prelude.{ℕ, List, map, slice_index_or, slice_set, if◌then◌else◌, Option, Some, None}
use Rattle.std.specs.List.{enumerate_from}
use Rattle.std.specs.Option.{option_and_then, option_or}
use Rattle.rendering_context.specs.Cites.{DisambiguateState, undisambiguated}
use Rattle.driver_requests.specs.Suffixes.{Suffix}
use Rattle.driver_disambiguation.specs.States.{States, is_suffix, suffix_by, suffix_index}
use Rattle.driver_names.specs.Prints.{GivenState}

-- the year suffixes of entries with these states, and what gave them
abbrev pub suffixes_by : States → List GivenState → List (Option Suffix)
suffixes_by states gs = map (λ p. suffix_by p.1 p.0 gs) (enumerate_from 0 states)

-- the year suffix at an index, if it was given
abbrev pub suffix_if_given : GivenState → ℕ → Option Suffix
suffix_if_given g n = if is_suffix n g.state then Some (record { index = n; origin = g.origin }) else None

-- the year suffix that a state is, if it was given
abbrev pub suffix_if : DisambiguateState → GivenState → Option Suffix
suffix_if state g = option_and_then (suffix_if_given g) (suffix_index state)

-- what was found so far, and what one more gave
abbrev pub found_with : States → List (Option Suffix) → GivenState → List (Option Suffix)
found_with states ss g = slice_set ss g.entry (option_or (slice_index_or ss g.entry None) (suffix_if (slice_index_or states g.entry undisambiguated) g))
