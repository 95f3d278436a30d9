-- The code's values without where they lie in memory.
use Rattle.std.specs.Prelude.{List, map}
use Rattle.std.specs.Borrow.{Bor}
use Rattle.laws.specs.Text.{characters}
use Rattle.rendering_context.specs.Cites.{DisambiguateState}
use Rattle.rendering_context.specs.Views.{state_view}
use Rattle.rendering_tree.specs.Trees.{Children}
use Rattle.rendering_tree.specs.Views.{tree_view}
use Rattle.rendering_tree.specs.Writing.{plain_text}
use Rattle.driver_requests.specs.SuffixViews.{origin_view}
use Rattle.driver_names.specs.Prints as prints
use Rattle.driver_names.specs.declared.given_state.GivenState.{GivenState}
use Rattle.driver_names.specs.declared.printed.Candidate.{Candidate}
use Rattle.driver_names.specs.declared.printed.Printed.{Printed}

-- a cite that prints a tree by its state
abbrev pub printed_as_view : Candidate → DisambiguateState → Children → prints.Printed
printed_as_view c state printed = record {
  entry = c.entry;
  number = c.number;
  has_date = c.has_date;
  rule = c.rule;
  adds_suffix = c.adds_suffix;
  first_chooses_too = c.first_chooses_too;
  same_entry_is_no_rival = c.same_entry_is_no_rival;
  suffixes_by_number = c.suffixes_by_number;
  repeats = c.repeats;
  met_disambiguate = c.met_disambiguate;
  names = c.names;
  state = state;
  tree = printed;
  text = plain_text printed;
}

-- a cite at the start of a round
abbrev pub printed_view : Printed → prints.Printed
printed_view s = record (printed_as_view s.cite (state_view s.state) (tree_view s.tree)) { text = characters s.text }

-- a cite, as it prints a tree by another state
abbrev pub printed_again : prints.Printed → DisambiguateState → Children → prints.Printed
printed_again s state printed = record s { state = state; tree = printed; text = plain_text printed }

-- cites of a class
abbrev pub class_view : List (Bor Printed) → List prints.Printed
class_view ss = map (λ s. printed_view s.now) ss

-- a state that a class gives
abbrev pub given_view : GivenState → prints.GivenState
given_view g = record { entry = g.entry; state = state_view g.state; origin = origin_view g.origin }

-- the states that classes give
abbrev pub given_states_view : List GivenState → List prints.GivenState
given_states_view gs = map given_view gs
