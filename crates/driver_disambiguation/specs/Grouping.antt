-- Cites in groups of those that print one text, by its number.
use Rattle.std.specs.Prelude.{ℕ, Bool, ◌==◌, nat_eq, List, [], ◌∷◌, ◌++◌, map, filter, count_by, get_or, length, Vec, if◌then◌else◌}
use Rattle.std.specs.Global.{Global}
use Rattle.std.specs.Borrow.{Bor}
use Rattle.driver_disambiguation.specs.Classes.{is_mixed}
use Rattle.driver_names.specs.Prints.{may_be_alike}
use Rattle.driver_names.specs.Views.{class_view, printed_view}
use Rattle.driver_names.specs.declared.printed.Printed.{Printed}

-- the cites that may be alike to those of other entries
abbrev pub allowing : List (ℕ × Printed) → List (ℕ × Printed)
allowing ps = filter (λ p. may_be_alike (printed_view p.1)) ps

-- whether two cites have one number
abbrev pub is_alike : ℕ × Printed → ℕ × Printed → Bool
is_alike p q = nat_eq p.0 q.0

-- the cites of a number
abbrev pub of_number : ℕ → List (ℕ × Printed) → List Printed
of_number n ps = map (λ p. p.1) (filter (λ p. nat_eq n p.0) ps)

-- the number of a cite that comes after some others, where one of these has it
abbrev pub number_if_second : List (ℕ × Printed) → ℕ × Printed → List ℕ
number_if_second before p = if count_by (is_alike p) before == 1 then p.0 ∷ [] else []

-- the numbers of cites one after the other, each where it is the second of its number
abbrev pub seconds_after : List (ℕ × Printed) → List (ℕ × Printed) → List ℕ
seconds_after before [] = []
seconds_after before (p ∷ ps) = number_if_second before p ++ seconds_after (before ++ p ∷ []) ps

-- the numbers of two cites or more, in the order of their second ones
abbrev pub seconds : List (ℕ × Printed) → List ℕ
seconds ps = seconds_after [] ps

-- the cites in a group, by its number
abbrev pub under : List (Vec (Bor Printed) Global) → ℕ → List (Bor Printed)
under groups n = get_or (map (λ g. g.items) groups) n []

-- a cite, where it is wanted in the group of a number
abbrev pub put_where : Bool → ℕ → Bor Printed → ℕ → List (Bor Printed)
put_where is_wanted number s n = if is_wanted then (if nat_eq n number then s ∷ [] else []) else []

-- a number, where its group has one cite and another one is wanted
abbrev pub second_where : Bool → ℕ → List (Bor Printed) → List ℕ
second_where is_wanted number group = if is_wanted then (if length group == 1 then number ∷ [] else []) else []

-- a group that is of more than one entry
abbrev pub if_mixed : List (Bor Printed) → List (List (Bor Printed))
if_mixed ss = if is_mixed (class_view ss) then ss ∷ [] else []
