-- What a round gives to entries, joined one state after the other.
use Rattle.std.specs.Prelude.{ℕ, Bool, true, false, List, length, slice_index_or, slice_set, replicate, if◌then◌else◌}
use Rattle.rendering_context.specs.Cites.{DisambiguateState, undisambiguated, greater_state}
use Rattle.driver_names.specs.Prints.{GivenState}

-- the states of entries, and whether the round gave one to each
pub record Joined : Type 0 where
  pub states : List DisambiguateState
  pub is_given : List Bool

-- a state instead of the one from before the round, or joined with one that the round gave
abbrev pub joined_with : Bool → DisambiguateState → DisambiguateState → DisambiguateState
joined_with is_given old new = if is_given then greater_state old new else new

-- a state joined with what the round gave to the entry at an index
abbrev pub joined_at : Joined → ℕ → DisambiguateState → Joined
joined_at t entry state = record {
  states = slice_set t.states entry (joined_with (slice_index_or t.is_given entry false) (slice_index_or t.states entry undisambiguated) state);
  is_given = slice_set t.is_given entry true;
}

-- one state more
abbrev pub join : Joined → GivenState → Joined
join t g = joined_at t g.entry g.state

-- nothing was given yet
abbrev pub before_giving : List DisambiguateState → Joined
before_giving states = record { states = states; is_given = replicate (length states) false }
