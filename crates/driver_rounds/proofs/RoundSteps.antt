-- States after a round, and what cites print by them.
use Rattle.std.proofs.Common.{◌≡◌, ℕ, suc, ◌+◌, ◌-◌, ◌*◌, ◌<◌, ◌≤◌, zero-add, Bool, true, false, true≢false, ◌||◌, All, List, [], ◌∷◌, ◌++◌, length, map, filter, get_or, slice_index_or, refl, sym, ap, ◌∙◌, cond, arith, Option, Some, None, Ok, Err}
use Rattle.std.specs.Prelude.{if◌then◌else◌, fold}
use Rattle.std.specs.Option.{unwrap_or}
use Rattle.std.specs.List.{enumerate_from, list_any, range_with_len, reduce}
use Rattle.std.proofs.lemmas.List.{get_or-replicate, get_or-map, length-map}
use Rattle.std.proofs.lemmas.List.Elements.{All-head, All-tail}
use Rattle.std.proofs.Math.Nat.{suc-mul}
use Rattle.laws.specs.Results.{EndsWith}
use Rattle.std.proofs.lemmas.List.Folds.{list_any-append}
use Rattle.std.proofs.lemmas.List.FromFn.{get_or-enumerate_from, get_or-map-range_with_len, length-enumerate_from}
use Rattle.rendering_context.specs.Cites.{undisambiguated, greater_state}
use Rattle.driver_requests.specs.Cites.{Numbered, entry_of}
use Rattle.driver_requests.specs.Errors.{Overflow, overflow}
use Rattle.driver_names.specs.Prints.{Candidate, Printed, printed_as, GivenState}
use Rattle.driver_disambiguation.specs.Classes.{printed_under}
use Rattle.driver_disambiguation.specs.States.{States, is_beyond, is_given_to, joined_for, state_of, states_after, undisambiguated_states, suffixes_overflow}
use Rattle.driver_disambiguation.specs.Rounds.{Disambiguation, after_round, round_given}
use Rattle.driver_disambiguation.specs.Views.{unless_beyond}
use Rattle.driver_rounds.specs.Rounding.{again_by, again_if, are_again, unless_overflow}
use Rattle.driver_rounds.specs.FirstPrints.{candidate, first_print, printed_undisambiguated}
use Rattle.driver_rounds.specs.Views.{printed_by_states}

-- the first member passes or not
none_if : {X : Type 0} (b more : Bool) (x : X) (xs : List X) → (b || more) ≡ false → (more ≡ false → xs ≡ []) → cond b (x ∷ xs) xs ≡ []
none_if true more x xs h rest = absurd (true≢false h)
none_if false more x xs h rest = rest h

-- neither of two is
or_none : (b more : Bool) → (b || more) ≡ false → more ≡ false
or_none true more h = absurd (true≢false h)
or_none false more h = h

-- where no member passes, none is left
none_passes : {X : Type 0} (test : X → Bool) (xs : List X) → list_any test xs ≡ false → filter test xs ≡ []
none_passes test [] h = refl
none_passes test (x ∷ xs) h = none_if (test x) (list_any test xs) x (filter test xs) h (none_passes test xs)

-- there are as many states after a round
pub states_after_length : (gs : List GivenState) (old : States) → length (states_after gs old) ≡ length old
states_after_length gs old = length-map (enumerate_from 0 old) (λ p. unwrap_or (joined_for p.0 gs) p.1) ∙ length-enumerate_from 0 old

-- an entry to which nothing is given has the state that it had
state_kept : (gs : List GivenState) (old : States) (entry : ℕ) → entry < length old → list_any (is_given_to entry) gs ≡ false → state_of (states_after gs old) entry ≡ state_of old entry
state_kept gs old entry less h =
    get_or-map (λ p. unwrap_or (joined_for p.0 gs) p.1) (enumerate_from 0 old) entry (0, undisambiguated) undisambiguated (omega (arith, less, length-enumerate_from 0 old))
    ∙ ap (λ p. unwrap_or (joined_for p.0 gs) p.1) (get_or-enumerate_from 0 old entry (0, undisambiguated) less)
    ∙ ap (λ n. unwrap_or (joined_for n gs) (get_or old entry undisambiguated)) (zero-add entry)
    ∙ ap (λ hs. unwrap_or (reduce greater_state (map (λ g. g.state) hs)) (get_or old entry undisambiguated)) (none_passes (is_given_to entry) gs h)

-- whether something is given to the entry at an index
given_at : (gs : List GivenState) (count entry : ℕ) → entry < count → slice_index_or (map (λ e. list_any (is_given_to e) gs) (range_with_len 0 count)) entry false ≡ list_any (is_given_to entry) gs
given_at gs count entry less = get_or-map-range_with_len (λ e. list_any (is_given_to e) gs) 0 count entry entry false less (zero-add entry)

-- whether its entry was given something or not
again_cases : {P : Type 0} (n : Numbered P) (old new : States) (b : Bool) → (b ≡ false → state_of new (entry_of n.cite) ≡ state_of old (entry_of n.cite))
    → (if b then again_by (state_of new (entry_of n.cite)) n (printed_by_states old n) else printed_by_states old n) ≡ printed_by_states new n
again_cases n old new true h = refl
again_cases n old new false h = ap (λ m. printed_as (candidate (first_print n)) m ((candidate (first_print n)).printed m)) (sym (h refl))

-- a cite that is printed again, where its entry was given something, prints by the states after the round
again_by_states : {P : Type 0} (gs : List GivenState) (old : States) (n : Numbered P) → entry_of n.cite < length old
    → again_if (states_after gs old) (map (λ e. list_any (is_given_to e) gs) (range_with_len 0 (length old))) n (printed_by_states old n) ≡ printed_by_states (states_after gs old) n
again_by_states gs old n less =
    again_cases n old (states_after gs old) _ (λ h. state_kept gs old (entry_of n.cite) less (sym (given_at gs (length old) (entry_of n.cite) less) ∙ h))

-- the same of all cites
pub all_again : {P : Type 0} (gs : List GivenState) (old : States) (ns : List (Numbered P)) → All (λ (m : Numbered P). entry_of m.cite < length old) ns
    → are_again (states_after gs old) (map (λ e. list_any (is_given_to e) gs) (range_with_len 0 (length old))) ns (map (printed_by_states old) ns) ≡ map (printed_by_states (states_after gs old)) ns
all_again gs old [] h = refl
all_again {P} gs old (n ∷ ns) h =
    let first = again_by_states gs old n (All-head (λ (m : Numbered P). entry_of m.cite < length old) n ns h) in
    let others = all_again gs old ns (All-tail (λ (m : Numbered P). entry_of m.cite < length old) n ns h) in
    λ j. first j ∷ others j

-- cites by their states
each_by_states : {P : Type 0} (old : States) (ns : List (Numbered P)) → map (printed_under old) (map (λ n. candidate (first_print n)) ns) ≡ map (printed_by_states old) ns
each_by_states old [] = refl
each_by_states old (n ∷ ns) = ap (λ ss. printed_by_states old n ∷ ss) (each_by_states old ns)

-- where a year suffix is after the last nothing is given
overflow_if : {X : Type 0} (b : Bool) (x : X) → b ≡ true → (if b then Err overflow else Ok x) ≡ Err overflow
overflow_if b x h = ap (λ c. if c then Err overflow else Ok x) h

-- else all is
no_overflow_if : {X : Type 0} (b : Bool) (x : X) → b ≡ false → (if b then Err overflow else Ok x) ≡ Ok x
no_overflow_if b x h = ap (λ c. if c then Err overflow else Ok x) h

-- what is refused has a year suffix after the last
refused : {X : Type 0} (b : Bool) (x : X) → (if b then Err overflow else Ok x) ≡ Err overflow → b ≡ true
refused true x h = refl
refused false x h = cc

-- what is given has none, and is all
accepted : {X : Type 0} (b : Bool) (x y : X) → (if b then Err overflow else Ok x) ≡ Ok y → (b ≡ false) × (x ≡ y)
accepted true x y h = cc
accepted false x y h = (refl, cc)

-- year suffixes overflow where some of them do
or_overflow : (b c : Bool) → c ≡ true → (b || c) ≡ true
or_overflow true c h = refl
or_overflow false c h = h

-- two have none where neither has
both_in : (b c : Bool) → b ≡ false → c ≡ false → (b || c) ≡ false
both_in b c h k = (λ j. h j || k j)

module _ {P : Type 0} (adds_names : Bool) (round : ℕ) (ns : List (Numbered P)) (old : Disambiguation) where
  -- what a round gives is what it gives to these cites
  given_is : (printed : List Printed) → printed ≡ map (printed_by_states old.states) ns → round_given adds_names round printed ≡ round_given adds_names round (map (printed_under old.states) (map (λ n. candidate (first_print n)) ns))
  given_is printed h = ap (round_given adds_names round) (h ∙ sym (each_by_states old.states ns))

  -- a round that gives a year suffix after the last is refused
  pub round_refused : (printed : List Printed) → printed ≡ map (printed_by_states old.states) ns → unless_beyond (round_given adds_names round printed) ≡ Err overflow
      → unless_overflow ns (after_round adds_names (map (λ n. candidate (first_print n)) ns) old round) ≡ Err overflow
  round_refused printed h e =
      let gs = round_given adds_names round (map (printed_under old.states) (map (λ n. candidate (first_print n)) ns)) in
      let more : suffixes_overflow gs ≡ true = ap suffixes_overflow (sym (given_is printed h)) ∙ refused (suffixes_overflow (round_given adds_names round printed)) (round_given adds_names round printed) e in
      overflow_if (suffixes_overflow (old.given ++ gs)) (after_round adds_names (map (λ n. candidate (first_print n)) ns) old round, map (printed_by_states (states_after gs old.states)) ns)
      (list_any-append (λ g. is_beyond g.state) old.given gs ∙ or_overflow (suffixes_overflow old.given) (suffixes_overflow gs) more)

  -- another round leaves its states, and what cites print by them
  pub round_given_is : (printed again : List Printed) (gs all : List GivenState) (new : States) (is_given : List Bool) → printed ≡ map (printed_by_states old.states) ns → unless_beyond (round_given adds_names round printed) ≡ Ok gs
      → suffixes_overflow old.given ≡ false → All (λ (m : Numbered P). entry_of m.cite < length old.states) ns
      → new ≡ states_after gs old.states → is_given ≡ map (λ e. list_any (is_given_to e) gs) (range_with_len 0 (length old.states)) → again ≡ are_again new is_given ns printed → all ≡ old.given ++ gs
      → unless_overflow ns (after_round adds_names (map (λ n. candidate (first_print n)) ns) old round) ≡ Ok (record { states = new; given = all }, again)
  round_given_is printed again gs all new is_given h e before within states_are given_are again_are all_are =
      let accept = accepted (suffixes_overflow (round_given adds_names round printed)) (round_given adds_names round printed) gs e in
      let same : round_given adds_names round (map (printed_under old.states) (map (λ n. candidate (first_print n)) ns)) ≡ gs = sym (given_is printed h) ∙ accept.1 in
      let none : suffixes_overflow gs ≡ false = ap suffixes_overflow (sym accept.1) ∙ accept.0 in
      let printed_again : again ≡ map (printed_by_states (states_after gs old.states)) ns = again_are ∙ (λ j. are_again (states_are j) (given_are j) ns (h j)) ∙ all_again gs old.states ns within in
      ap (λ hs. unless_overflow ns (record { states = states_after hs old.states; given = old.given ++ hs })) same
      ∙ no_overflow_if (suffixes_overflow (old.given ++ gs)) (record { states = states_after gs old.states; given = old.given ++ gs }, map (printed_by_states (states_after gs old.states)) ns)
      (list_any-append (λ g. is_beyond g.state) old.given gs ∙ both_in (suffixes_overflow old.given) (suffixes_overflow gs) before none)
      ∙ (λ j. Ok (record { states = sym states_are j; given = sym all_are j }, sym printed_again j))

  -- what another round leaves is its states, and what cites print by them, and no year suffix is after the last
  pub round_leaves : (new : Disambiguation) (again : List Printed) → unless_overflow ns (after_round adds_names (map (λ n. candidate (first_print n)) ns) old round) ≡ Ok (new, again)
      → (after_round adds_names (map (λ n. candidate (first_print n)) ns) old round ≡ new) × (again ≡ map (printed_by_states new.states) ns) × (suffixes_overflow new.given ≡ false) × (length new.states ≡ length old.states)
  round_leaves new again e =
      let t = after_round adds_names (map (λ n. candidate (first_print n)) ns) old round in
      let gs = round_given adds_names round (map (printed_under old.states) (map (λ n. candidate (first_print n)) ns)) in
      let accept = accepted (suffixes_overflow t.given) (t, map (printed_by_states t.states) ns) (new, again) e in
      let same : t ≡ new = ap (λ p. p.0) accept.1 in
      let printed : map (printed_by_states t.states) ns ≡ again = ap (λ p. p.1) accept.1 in
      (same, sym printed ∙ ap (λ u. map (printed_by_states u.states) ns) same, ap (λ u. suffixes_overflow u.given) (sym same) ∙ accept.0, ap (λ u. length u.states) (sym same) ∙ states_after_length gs old.states)

-- a year suffix after the last stays through the rounds that are left
pub still_refused : (adds_names : Bool) (cites : List Candidate) (old : Disambiguation) (rounds : List ℕ) → suffixes_overflow old.given ≡ true → suffixes_overflow (fold (after_round adds_names cites) old rounds).given ≡ true
still_refused adds_names cites old [] h = h
still_refused adds_names cites old (r ∷ rounds) h =
    let gs = round_given adds_names r (map (printed_under old.states) cites) in
    let more : suffixes_overflow (old.given ++ gs) ≡ true = list_any-append (λ g. is_beyond g.state) old.given gs ∙ ap (λ b. b || suffixes_overflow gs) h in
    still_refused adds_names cites (after_round adds_names cites old r) rounds more

-- where a round is refused all rounds are
pub rounds_refused : {P : Type 0} (adds_names : Bool) (ns : List (Numbered P)) (old t : Disambiguation) (r : ℕ) (rounds : List ℕ) → fold (after_round adds_names (map (λ n. candidate (first_print n)) ns)) old (r ∷ rounds) ≡ t
    → unless_overflow ns (after_round adds_names (map (λ n. candidate (first_print n)) ns) old r) ≡ Err overflow → unless_overflow ns t ≡ Err overflow
rounds_refused adds_names ns old t r rounds is e =
    let cites = map (λ n. candidate (first_print n)) ns in
    let next = after_round adds_names cites old r in
    let refuse : suffixes_overflow next.given ≡ true = refused (suffixes_overflow next.given) (next, map (printed_by_states next.states) ns) e in
    ap (unless_overflow ns) (sym is)
    ∙ overflow_if (suffixes_overflow (fold (after_round adds_names cites) next rounds).given) (fold (after_round adds_names cites) next rounds, map (printed_by_states (fold (after_round adds_names cites) next rounds).states) ns)
    (still_refused adds_names cites next rounds refuse)

module _ {P : Type 0} (adds_names : Bool) (ns : List (Numbered P)) where
  -- a round that is refused, whatever its refusal is
  pub round_ends : (refusal : Option Overflow) (round : ℕ) (old : Disambiguation) (printed : List Printed) → printed ≡ map (printed_by_states old.states) ns → EndsWith refusal (unless_beyond (round_given adds_names round printed))
      → EndsWith refusal (unless_overflow ns (after_round adds_names (map (λ n. candidate (first_print n)) ns) old round))
  round_ends None round old printed h e = tt
  round_ends (Some overflow) round old printed h e = round_refused adds_names round ns old printed h e

  -- the round at hand, then those after it
  range_step : (round count : ℕ) → round < count → range_with_len round (count - round) ≡ round ∷ range_with_len (round + 1) (count - (round + 1))
  range_step round count less =
      let e : count - round ≡ suc (count - (round + 1)) = omega arith in
      ap (range_with_len round) e

  -- after another round those after it are left
  pub rounds_go_on : (adds : Bool) (round : ℕ) (old new t : Disambiguation) (again : List Printed) → adds ≡ adds_names → round < 3 → fold (after_round adds_names (map (λ n. candidate (first_print n)) ns)) old (range_with_len round (3 - round)) ≡ t
      → unless_overflow ns (after_round adds (map (λ n. candidate (first_print n)) ns) old round) ≡ Ok (new, again)
      → (fold (after_round adds_names (map (λ n. candidate (first_print n)) ns)) new (range_with_len (round + 1) (3 - (round + 1))) ≡ t) × (again ≡ map (printed_by_states new.states) ns) × (suffixes_overflow new.given ≡ false) × (length new.states ≡ length old.states)
  rounds_go_on adds round old new t again same less h e =
      let leaves = round_leaves adds round ns old new again e in
      let next : after_round adds_names (map (λ n. candidate (first_print n)) ns) old round ≡ new = ap (λ b. after_round b (map (λ n. candidate (first_print n)) ns) old round) (sym same) ∙ leaves.0 in
      let on : fold (after_round adds_names (map (λ n. candidate (first_print n)) ns)) new (range_with_len (round + 1) (3 - (round + 1))) ≡ t =
      ap (λ u. fold (after_round adds_names (map (λ n. candidate (first_print n)) ns)) u (range_with_len (round + 1) (3 - (round + 1)))) (sym next)
      ∙ ap (fold (after_round adds_names (map (λ n. candidate (first_print n)) ns)) old) (sym (range_step round 3 less))
      ∙ h in
      (on, leaves.1, leaves.2, leaves.3)

  -- where a round is refused all are
  pub rounds_end : (refusal : Option Overflow) (adds : Bool) (round : ℕ) (old t : Disambiguation) → adds ≡ adds_names → round < 3 → fold (after_round adds_names (map (λ n. candidate (first_print n)) ns)) old (range_with_len round (3 - round)) ≡ t
      → EndsWith refusal (unless_overflow ns (after_round adds (map (λ n. candidate (first_print n)) ns) old round)) → EndsWith refusal (unless_overflow ns t)
  rounds_end None adds round old t same less h e = tt
  rounds_end (Some overflow) adds round old t same less h e =
      rounds_refused adds_names ns old t round (range_with_len (round + 1) (3 - (round + 1))) (ap (fold (after_round adds_names (map (λ n. candidate (first_print n)) ns)) old) (sym (range_step round 3 less)) ∙ h)
      (ap (λ b. unless_overflow ns (after_round b (map (λ n. candidate (first_print n)) ns) old round)) (sym same) ∙ e)

  -- after the last round
  pub rounds_done : (round : ℕ) (old t : Disambiguation) (printed : List Printed) → 3 ≤ round → fold (after_round adds_names (map (λ n. candidate (first_print n)) ns)) old (range_with_len round (3 - round)) ≡ t
      → printed ≡ map (printed_by_states old.states) ns → suffixes_overflow old.given ≡ false → unless_overflow ns t ≡ Ok (old, printed)
  rounds_done round old t printed le h is none =
      let over : 3 - round ≡ 0 = omega arith in
      let same : old ≡ t = ap (λ n. fold (after_round adds_names (map (λ n. candidate (first_print n)) ns)) old (range_with_len round n)) (sym over) ∙ h in
      ap (unless_overflow ns) (sym same)
      ∙ no_overflow_if (suffixes_overflow old.given) (old, map (printed_by_states old.states) ns) none
      ∙ (λ j. Ok (old, sym is j))

-- what is not disambiguated prints undisambiguated
pub printed_undisambiguated_all : {P : Type 0} (count : ℕ) (ns : List (Numbered P)) → All (λ (m : Numbered P). entry_of m.cite < count) ns → map printed_undisambiguated ns ≡ map (printed_by_states (undisambiguated_states count)) ns
printed_undisambiguated_all count [] h = refl
printed_undisambiguated_all {P} count (n ∷ ns) h =
    let none : state_of (undisambiguated_states count) (entry_of n.cite) ≡ undisambiguated = get_or-replicate count (entry_of n.cite) undisambiguated undisambiguated (All-head (λ (m : Numbered P). entry_of m.cite < count) n ns h) in
    let others = printed_undisambiguated_all count ns (All-tail (λ (m : Numbered P). entry_of m.cite < count) n ns h) in
    λ j. printed_as (candidate (first_print n)) (sym none j) ((candidate (first_print n)).printed (sym none j)) ∷ others j

-- calls of the rounds that are left
pub rounds_count_on : (round n now new all : ℕ) → round < 3 → now + (3 - round) * n ≤ all → new ≤ now + n → new + (3 - (round + 1)) * n ≤ all
rounds_count_on round n now new all less h le =
    let e : 3 - round ≡ suc (3 - (round + 1)) = omega arith in
    let split : (3 - round) * n ≡ (3 - (round + 1)) * n + n = ap (λ m. m * n) e ∙ suc-mul (3 - (round + 1)) n in
    omega (arith, h, le, split)

-- a count without the rounds that are left
pub rounds_counted : (now more all : ℕ) → now + more ≤ all → now ≤ all
rounds_counted now more all h = omega arith
