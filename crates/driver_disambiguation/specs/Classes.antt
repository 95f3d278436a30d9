-- Classes of cites that print alike.
use Rattle.std.specs.Prelude.{ℕ, Bool, ◌==◌, nat_eq, nat_lt, List, [], ◌∷◌, map, filter, count_by, length, take, if◌then◌else◌}
use Rattle.std.specs.List.{flat_map, enumerate_from}
use Rattle.std.specs.Str.{bytes_eq}
use Rattle.driver_requests.specs.CitedEntries.{once}
use Rattle.driver_names.specs.Prints.{Candidate, Printed, may_be_alike, printed_as}
use Rattle.driver_disambiguation.specs.States.{States, state_of}

-- a cite by the states of a round
abbrev pub printed_under : States → Candidate → Printed
printed_under states c = printed_as c (state_of states c.entry) (c.printed (state_of states c.entry))

-- the entries of cites, each once
abbrev pub entries_of : List Printed → List ℕ
entries_of ss = once nat_eq (map (λ s. s.entry) ss)

-- all members like one, where it is the second of them; else nothing
abbrev pub part_at : {X : Type 0} → (X → X → Bool) → List X → ℕ × X → List (List X)
part_at alike xs (i, x) = if count_by (alike x) (take i xs) == 1 then filter (alike x) xs ∷ [] else []

-- Members in parts of those that are alike: parts of two or more, in the order of their second members.
abbrev pub parts : {X : Type 0} → (X → X → Bool) → List X → List (List X)
parts alike xs = flat_map (part_at alike xs) (enumerate_from 0 xs)

-- whether two cites print one text
abbrev pub is_alike : Printed → Printed → Bool
is_alike s t = bytes_eq s.text t.text

-- whether cites are of more than one entry
abbrev pub is_mixed : List Printed → Bool
is_mixed ss = nat_lt 1 (length (entries_of ss))

-- The classes: cites that may be alike to those of other entries, in parts of those that print alike; parts of one entry alone are none.
abbrev pub classes : List Printed → List (List Printed)
classes ss = filter is_mixed (parts is_alike (filter may_be_alike ss))
