-- States and what cites print by them, round after round.
use Rattle.std.specs.Prelude.{ℕ, ◌<◌, Bool, false, All, List, [], ◌∷◌, map, slice_index_or, if◌then◌else◌, Vec, Result, Ok, Err}
use Rattle.rendering_context.specs.Cites.{DisambiguateState}
use Rattle.rendering_context.specs.Views.{state_view}
use Rattle.rendering_tree.specs.Writing.{plain_text}
use Rattle.driver_requests.specs.Cites.{Numbered, entry_of}
use Rattle.driver_requests.specs.Errors.{Overflow, overflow}
use Rattle.driver_names.specs.Prints.{Printed}
use Rattle.driver_disambiguation.specs.CitesViews.{printed_cites_view}
use Rattle.driver_disambiguation.specs.States.{States, state_of, suffixes_overflow}
use Rattle.driver_disambiguation.specs.Rounds.{Disambiguation}
use Rattle.driver_names.specs.Views.{given_states_view}
use Rattle.driver_rounds.specs.FirstPrints.{printed_by}
use Rattle.driver_rounds.specs.Views.{printed_by_states}
use Rattle.driver_rounds.specs.declared.cite.NumberedCite.{NumberedCite}
use Rattle.driver_rounds.specs.declared.rounds.RoundStates.{RoundStates}

-- states, all that was given, and what cites print
abbrev pub round_states_view : RoundStates → Disambiguation × List Printed
round_states_view m = (record { states = map state_view m.states.items; given = given_states_view m.given.items }, printed_cites_view m.printed)

-- states with what cites print by them, unless a year suffix is after the last
abbrev pub unless_overflow : {P : Type 0} → List (Numbered P) → Disambiguation → Result (Disambiguation × List Printed) Overflow
unless_overflow ns t = if suffixes_overflow t.given then Err overflow else Ok (t, map (printed_by_states t.states) ns)

-- the entries of cites are among so many
abbrev pub AreWithin : {A : Type 0} → ℕ → List (Vec NumberedCite A) → Type 0
AreWithin {A} count vs = All (λ (v : Vec NumberedCite A). All (λ (n : NumberedCite). n.entry < count) v.items) vs

-- a cite that is printed again by a state
abbrev pub again_by : {P : Type 0} → DisambiguateState → Numbered P → Printed → Printed
again_by state n s = record s { state = state; tree = (printed_by n state).tree; text = plain_text (printed_by n state).tree }

-- a cite that is printed again where its entry was given something
abbrev pub again_if : {P : Type 0} → States → List Bool → Numbered P → Printed → Printed
again_if states is_given n s = if slice_index_or is_given (entry_of n.cite) false then again_by (state_of states (entry_of n.cite)) n s else s

-- cites one after the other that are printed again where their entries were given something, and the cites after these
abbrev pub are_again : {P : Type 0} → States → List Bool → List (Numbered P) → List Printed → List Printed
are_again states is_given [] ss = ss
are_again states is_given (n ∷ ns) [] = []
are_again states is_given (n ∷ ns) (s ∷ ss) = again_if states is_given n s ∷ are_again states is_given ns ss
