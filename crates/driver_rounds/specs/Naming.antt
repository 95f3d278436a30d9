-- The code's cites with the names that are printed before these are compared.
use Rattle.std.specs.Prelude.{ℕ, ◌+◌, List, map, Option, Some, None}
use Rattle.std.specs.Borrow.{Bor}
use Rattle.std.specs.Option.{option_map}
use Rattle.rendering_context.specs.Cites.{names_of}
use Rattle.rendering_context.specs.Views.{lent_names, state_view}
use Rattle.rendering_context.specs.declared.cite.DisambiguateState as code
use Rattle.rendering_people.specs.Properties.{Properties}
use Rattle.driver_disambiguation.specs.States.{States, state_of}
use Rattle.driver_rounds.specs.FirstPrints.{FirstNaming}
use Rattle.driver_rounds.specs.declared.cite.NumberedCite.{NumberedCite}

-- how many calls of styles names take at most that are printed first in one way: one for each cite, where they are
abbrev pub calls_where : {A : Type 0} → Option A → ℕ → ℕ
calls_where None cites = 0
calls_where (Some a) cites = cites

-- how many calls of styles the first names take at most
abbrev pub first_effort : FirstNaming → ℕ → ℕ
first_effort naming cites = calls_where naming.0 cites + calls_where naming.1 cites

-- how much of its first names a cite prints before cites are compared, by states where there are some
abbrev pub names_under : Option States → NumberedCite → Properties
names_under None n = lent_names n.first_names
names_under (Some ss) n = names_of (state_of ss n.entry)

-- a cite apart from these names
abbrev pub unnamed : NumberedCite → NumberedCite
unnamed n = record n { first_names = None }

-- a cite, and how much of its first names it prints
abbrev pub seen : NumberedCite → NumberedCite × Properties
seen n = (unnamed n, lent_names n.first_names)

-- the same by states
abbrev pub seen_under : Option States → NumberedCite → NumberedCite × Properties
seen_under ss n = (unnamed n, names_under ss n)

-- the states of entries as they lie in memory, where there are some
abbrev pub states_by : Option (Bor (List code.DisambiguateState)) → Option States
states_by ss = option_map (λ (s : Bor (List code.DisambiguateState)). map state_view s.now) ss
