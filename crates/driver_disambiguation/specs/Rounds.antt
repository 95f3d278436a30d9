-- Rounds in which states are given, class by class.
use Rattle.std.specs.Prelude.{ℕ, Bool, ◌==◌, ◌&&◌, List, [], ◌∷◌, ◌++◌, map, filter, fold, if◌then◌else◌}
use Rattle.std.specs.List.{list_any, flat_map, enumerate_from, range_with_len}
use Rattle.std.specs.Ordering.{nat_cmp}
use Rattle.std.specs.declared.cmp.Ordering.{Ordering}
use Rattle.sorting.specs.Sorted.{sorted}
use Rattle.rendering_context.specs.Cites.{by_choose, by_suffix, may_change}
use Rattle.driver_requests.specs.Suffixes.{Origin}
use Rattle.driver_disambiguation.specs.States.{States, undisambiguated_states, states_after, is_given_to}
use Rattle.driver_names.specs.Prints.{GivenState, given_to, Candidate, Printed, prints_date}
use Rattle.driver_disambiguation.specs.Classes.{printed_under, entries_of, classes}
use Rattle.driver_names.specs.FirstNames.{first_origin}
use Rattle.driver_names.specs.Names.{states_by_names}

-- whether a state was given to an entry of a class
abbrev pub is_given_to_class : List GivenState → List Printed → Bool
is_given_to_class gs ss = list_any (λ s. list_any (is_given_to s.entry) gs) ss

-- a cite takes the branch for alike cites
abbrev pub chosen : Origin → Printed → GivenState
chosen o t = given_to t.entry by_choose o

-- it does, unless it is of the first entry
abbrev pub choose_beside : Origin → ℕ → Printed → List GivenState
choose_beside o first t = if t.entry == first then [] else chosen o t ∷ []

-- the branch for alike cites, to all of these cites; where the style of the first does not say so, not to those of its entry
abbrev pub states_by_choose : Origin → List Printed → List GivenState
states_by_choose o [] = []
states_by_choose o (s ∷ ss) = if s.first_chooses_too then map (chosen o) (s ∷ ss) else flat_map (choose_beside o s.entry) ss

-- Where for some cite of a class the test `disambiguate` was evaluated, and the cite may still change: all cites for which it was take the
-- branch, but for those of the first such entry where its style leaves them out.
abbrev pub states_by_branches : Origin → List Printed → List GivenState
states_by_branches o ss =
    let met = filter (λ s. s.met_disambiguate) ss in
    if list_any (λ s. may_change s.state) met then states_by_choose o met else []

-- year suffixes for entries in their order, from the first one on
abbrev pub suffixes_for : Origin → List ℕ → List GivenState
suffixes_for o entries = map (λ p. given_to p.1 (by_suffix p.0) o) (enumerate_from 0 entries)

-- how two cites compare by the numbers of their entries
abbrev pub by_number : Printed → Printed → Ordering
by_number s t = nat_cmp s.number t.number

-- cites in the order in which year suffixes are given: as they stand, or by their numbers where a style says so
abbrev pub in_suffix_order : List Printed → List Printed
in_suffix_order ss = if list_any (λ s. s.suffixes_by_number) ss then sorted by_number ss else ss

-- What year suffixes give to the entries of a class, where some cite of the document prints a date and a style of the class adds year
-- suffixes: in the order of their first cites there, or of their numbers.
abbrev pub states_by_suffixes : Bool → Origin → List Printed → List GivenState
states_by_suffixes has_dates o ss = if has_dates && list_any (λ s. s.adds_suffix) ss then suffixes_for o (entries_of (in_suffix_order ss)) else []

-- what was given in the round, and more where none of the entries of a class was given anything yet
abbrev pub unless_given : List Printed → List GivenState → List GivenState → List GivenState
unless_given ss more gs = if is_given_to_class gs ss then gs else gs ++ more

-- What was given in the round, with what a class adds: states by names; then, where its entries still have none of this round, by branches;
-- then, where they still have none, by year suffixes.
abbrev pub given_by : Bool → Bool → List GivenState → Origin → List Printed → List GivenState
given_by adds_names has_dates gs o ss =
    unless_given ss (states_by_suffixes has_dates o ss) (unless_given ss (states_by_branches o ss) (gs ++ states_by_names adds_names o ss))

-- what was given in the round, with what the class of a number adds
abbrev pub given_with_class : Bool → Bool → ℕ → List GivenState → ℕ × List Printed → List GivenState
given_with_class adds_names has_dates round gs p = given_by adds_names has_dates gs (record { round = round; class = p.0 }) p.1

-- what names alone give to classes, one after the other
abbrev pub names_given_to : Bool → List (List Printed) → List GivenState
names_given_to adds_names cs = flat_map (states_by_names adds_names first_origin) cs

-- what names alone give to the classes of cites
abbrev pub names_given : Bool → List Printed → List GivenState
names_given adds_names ss = names_given_to adds_names (classes ss)

-- what a round gives to its classes, one after the other
abbrev pub round_given : Bool → ℕ → List Printed → List GivenState
round_given adds_names round ss = fold (given_with_class adds_names (list_any prints_date ss) round) [] (enumerate_from 0 (classes ss))

-- The states of all entries, and all that rounds have given.
pub record Disambiguation : Type 0 where
  pub states : States
  pub given : List GivenState

-- the states after a round that gave this
abbrev pub after_giving : List GivenState → Disambiguation → Disambiguation
after_giving gs t = record { states = states_after gs t.states; given = t.given ++ gs }

-- the states after one round more
abbrev pub after_round : Bool → List Candidate → Disambiguation → ℕ → Disambiguation
after_round adds_names cites t round = after_giving (round_given adds_names round (map (printed_under t.states) cites)) t

-- the states before the first round
abbrev pub before_rounds : ℕ → Disambiguation
before_rounds n = record { states = undisambiguated_states n; given = [] }

-- the states after so many rounds, of cites of n entries
abbrev pub after_rounds : ℕ → Bool → ℕ → List Candidate → Disambiguation
after_rounds rounds adds_names n cites = fold (after_round adds_names cites) (before_rounds n) (range_with_len 0 rounds)

-- The states of cited entries: those after three rounds. After a round that gives nothing the others give nothing either.
abbrev pub disambiguated : Bool → ℕ → List Candidate → Disambiguation
disambiguated adds_names n cites = after_rounds 3 adds_names n cites
