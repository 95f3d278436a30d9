-- What a round has given up to a class.
use Rattle.std.specs.Prelude.{◌≡◌, ℕ, Bool, false, List, [], fold, if◌then◌else◌}
use Rattle.std.specs.Borrow.{Bor}
use Rattle.std.specs.BTreeSet.{BTreeSet, contains}
use Rattle.std.specs.List.{list_any, enumerate_from}
use Rattle.std.specs.Ordering.{nat_cmp}
use Rattle.sorting.specs.declared.keyed.Keyed.{Keyed}
use Rattle.rendering_context.specs.Cites.{may_change}
use Rattle.driver_requests.specs.Suffixes.{Origin}
use Rattle.driver_names.specs.Prints.{Printed, GivenState}
use Rattle.driver_names.specs.declared.printed.Printed as code
use Rattle.driver_disambiguation.specs.Classes.{entries_of}
use Rattle.driver_disambiguation.specs.States.{is_given_to, suffixes_overflow}
use Rattle.driver_disambiguation.specs.Rounds.{given_by, in_suffix_order, states_by_choose, suffixes_for}

-- a set has the entries to which something was given, and no others
abbrev pub AreEntriesOf : BTreeSet ℕ → List GivenState → Type 0
AreEntriesOf s gs = (e : ℕ) → contains nat_cmp s e ≡ list_any (is_given_to e) gs

-- no year suffix that was given is after the 256th
abbrev pub AllInRange : List GivenState → Type 0
AllInRange gs = suffixes_overflow gs ≡ false

-- what a round has given after further classes, of which the first has that number
abbrev pub given_from : Bool → Bool → ℕ → ℕ → List (List Printed) → List GivenState → List GivenState
given_from adds_names has_dates round n cs gs =
    fold (λ gs p. given_by adds_names has_dates gs (record { round = round; class = p.0 }) p.1) gs (enumerate_from n cs)

-- what a round gives to classes, one after the other
abbrev pub given_to_classes : Bool → Bool → ℕ → List (List Printed) → List GivenState
given_to_classes adds_names has_dates round cs = given_from adds_names has_dates round 0 cs []

-- other branches for cites for which the test `disambiguate` was evaluated, where some of these may still be changed
abbrev pub branches_for : Origin → List Printed → List GivenState
branches_for o met = if list_any (λ s. may_change s.state) met then states_by_choose o met else []

-- year suffixes for the entries of cites, where they are wanted
abbrev pub suffixes_where : Bool → Origin → List Printed → List GivenState
suffixes_where wanted o ss = if wanted then suffixes_for o (entries_of (in_suffix_order ss)) else []

-- a cite under the number of its entry
abbrev pub keyed : Bor code.Printed → Keyed ℕ (Bor code.Printed)
keyed s = record { key = s.now.cite.number; value = s }
