-- The states of a round, joined one after the other, are those that each entry is given.
use Rattle.std.proofs.Common.{arith, ◌≡◌, ℕ, ◌+◌, ◌<◌, ◌≤◌, Bool, true, false, cond, ◌||◌, List, [], ◌∷◌, map, length, drop, get_or, set, replicate, fold, refl, sym, ap, ◌∙◌}
use Rattle.std.specs.Prelude.{nat_eq, filter}
use Rattle.std.specs.List.{enumerate_from, list_any, range_with_len, reduce}
use Rattle.std.specs.Option.{unwrap_or}
use Rattle.std.proofs.lemmas.Bool.{eqb-true}
use Rattle.std.proofs.Math.Bool.{or-false, or-true, or_assoc}
use Rattle.std.proofs.lemmas.Cmp.{nat_eq_equiv}
use Rattle.std.proofs.lemmas.List.{at_drop_more, at_drop_all, ext_get_or, get_or-map, get_or-set_same, get_or-set_other, get_or-replicate, length-set, map-set, set-set, length-map, length-replicate}
use Rattle.std.proofs.lemmas.List.FromFn.{get_or-enumerate_from, get_or-map-range_with_len, length-enumerate_from, length-map-range_with_len}
use Rattle.rendering_context.specs.Cites.{DisambiguateState, undisambiguated, greater_state}
use Rattle.driver_names.specs.Prints.{GivenState}
use Rattle.driver_disambiguation.specs.States.{is_given_to, joined_for, states_after}
use Rattle.driver_disambiguation.specs.Joining.{Joined, join, joined_at, joined_with, before_giving}

-- what is given to an entry, onto what it has
abbrev onto : Bool → DisambiguateState → List DisambiguateState → DisambiguateState
onto true m ms = fold greater_state m ms
onto false m ms = unwrap_or (reduce greater_state ms) m

onto_none : (b : Bool) (m : DisambiguateState) → m ≡ onto b m []
onto_none true m = refl
onto_none false m = refl

onto_more : (b : Bool) (m x : DisambiguateState) (ms : List DisambiguateState) → onto true (joined_with b m x) ms ≡ onto b m (x ∷ ms)
onto_more true m x ms = refl
onto_more false m x ms = refl

-- what is given to an entry
abbrev states_for : ℕ → List GivenState → List DisambiguateState
states_for e gs = map (λ g. g.state) (filter (is_given_to e) gs)

-- what an entry has after one state more
abbrev has : Joined → ℕ → List DisambiguateState → DisambiguateState
has t e ms = onto (get_or t.is_given e false) (get_or t.states e undisambiguated) ms

-- two indices that differ
pub differs : (x e : ℕ) → nat_eq x e ≡ false → (e ≡ x → ⊥)
differs x e h same =
    let one : nat_eq x e ≡ true = ap (nat_eq x) same ∙ nat_eq_equiv.refl x in
    absurd cc

step : (t : Joined) (g : GivenState) (e : ℕ) (ms : List DisambiguateState) → e < length t.states → length t.is_given ≡ length t.states → (b : Bool) → nat_eq g.entry e ≡ b
    → has (join t g) e ms ≡ has t e (cond b (g.state ∷ ms) ms)
step t g e ms low long true h =
    let same : g.entry ≡ e = eqb-true g.entry e h in
    let x = joined_with (get_or t.is_given g.entry false) (get_or t.states g.entry undisambiguated) g.state in
    let flag : get_or (set t.is_given g.entry true) e false ≡ true =
    (λ k. get_or (set t.is_given (same k) true) e false) ∙ get_or-set_same t.is_given e true false (omega (arith, low, long)) in
    let state : get_or (set t.states g.entry x) e undisambiguated ≡ joined_with (get_or t.is_given e false) (get_or t.states e undisambiguated) g.state =
    (λ k. get_or (set t.states (same k) (joined_with (get_or t.is_given (same k) false) (get_or t.states (same k) undisambiguated) g.state)) e undisambiguated)
    ∙ get_or-set_same t.states e (joined_with (get_or t.is_given e false) (get_or t.states e undisambiguated) g.state) undisambiguated low in
    (λ k. onto (flag k) (state k) ms) ∙ onto_more (get_or t.is_given e false) (get_or t.states e undisambiguated) g.state ms
step t g e ms low long false h =
    let x = joined_with (get_or t.is_given g.entry false) (get_or t.states g.entry undisambiguated) g.state in
    let flag : get_or (set t.is_given g.entry true) e false ≡ get_or t.is_given e false = get_or-set_other t.is_given g.entry e true false (differs g.entry e h) in
    let state : get_or (set t.states g.entry x) e undisambiguated ≡ get_or t.states e undisambiguated = get_or-set_other t.states g.entry e x undisambiguated (differs g.entry e h) in
    λ k. onto (flag k) (state k) ms

cond-states : (e : ℕ) (g : GivenState) (gs : List GivenState) (b : Bool) → cond b (g.state ∷ states_for e gs) (states_for e gs) ≡ map (λ h. h.state) (cond b (g ∷ filter (is_given_to e) gs) (filter (is_given_to e) gs))
cond-states e g gs true = refl
cond-states e g gs false = refl

after : (gs : List GivenState) (t : Joined) (e : ℕ) → e < length t.states → length t.is_given ≡ length t.states → get_or (fold join t gs).states e undisambiguated ≡ has t e (states_for e gs)
after [] t e low long = onto_none (get_or t.is_given e false) (get_or t.states e undisambiguated)
after (g ∷ gs) t e low long =
    let states_long : length (join t g).states ≡ length t.states =
    length-set t.states g.entry (joined_with (get_or t.is_given g.entry false) (get_or t.states g.entry undisambiguated) g.state) in
    let given_long : length (join t g).is_given ≡ length t.is_given = length-set t.is_given g.entry true in
    after gs (join t g) e (omega (arith, low, states_long)) (given_long ∙ long ∙ sym states_long)
    ∙ step t g e (states_for e gs) low long (nat_eq g.entry e) refl
    ∙ ap (has t e) (cond-states e g gs (nat_eq g.entry e))

long_after : (gs : List GivenState) (t : Joined) → length (fold join t gs).states ≡ length t.states
long_after [] t = refl
long_after (g ∷ gs) t =
    long_after gs (join t g) ∙ length-set t.states g.entry (joined_with (get_or t.is_given g.entry false) (get_or t.states g.entry undisambiguated) g.state)

-- both lists stay as long as they were
pub given_long : (t : Joined) (g : GivenState) → length t.is_given ≡ length t.states → length (join t g).is_given ≡ length (join t g).states
given_long t g long =
    length-set t.is_given g.entry true ∙ long ∙ sym (length-set t.states g.entry (joined_with (get_or t.is_given g.entry false) (get_or t.states g.entry undisambiguated) g.state))

at_entry : (gs : List GivenState) (ms : List DisambiguateState) (e : ℕ) → e < length ms → get_or (states_after gs ms) e undisambiguated ≡ unwrap_or (joined_for e gs) (get_or ms e undisambiguated)
at_entry gs ms e low =
    let long : length (enumerate_from 0 ms) ≡ length ms = length-enumerate_from 0 ms in
    let index : 0 + e ≡ e = omega arith in
    let read : get_or (enumerate_from 0 ms) e (0, undisambiguated) ≡ (e, get_or ms e undisambiguated) =
    get_or-enumerate_from 0 ms e (0, undisambiguated) low ∙ (λ k. (index k, get_or ms e undisambiguated)) in
    get_or-map (λ (p : ℕ × DisambiguateState). unwrap_or (joined_for p.0 gs) p.1) (enumerate_from 0 ms) e (0, undisambiguated) undisambiguated (omega (arith, low, long))
    ∙ ap (λ (p : ℕ × DisambiguateState). unwrap_or (joined_for p.0 gs) p.1) read

-- the states after a round
pub joined_all : (gs : List GivenState) (ms : List DisambiguateState) → (fold join (before_giving ms) gs).states ≡ states_after gs ms
joined_all gs ms =
    let first = before_giving ms in
    let long : length (fold join first gs).states ≡ length ms = long_after gs first in
    let all_long : length (states_after gs ms) ≡ length ms = length-map (enumerate_from 0 ms) (λ (p : ℕ × DisambiguateState). unwrap_or (joined_for p.0 gs) p.1) ∙ length-enumerate_from 0 ms in
    ext_get_or undisambiguated (fold join first gs).states (states_after gs ms) (long ∙ sym all_long)
    (λ e low.
    let within : e < length ms = omega (arith, low, long) in
    let flag : get_or (replicate (length ms) false) e false ≡ false = get_or-replicate (length ms) e false false within in
    after gs first e within (length-replicate (length ms) false)
    ∙ ap (λ b. onto b (get_or ms e undisambiguated) (states_for e gs)) flag
    ∙ sym (at_entry gs ms e within))

given_now : (fs : List Bool) (g : GivenState) (e : ℕ) → e < length fs → (b : Bool) → nat_eq g.entry e ≡ b → get_or (set fs g.entry true) e false ≡ (get_or fs e false || b)
given_now fs g e low true h =
    let same : g.entry ≡ e = eqb-true g.entry e h in
    (λ k. get_or (set fs (same k) true) e false) ∙ get_or-set_same fs e true false low ∙ sym (or-true (get_or fs e false))
given_now fs g e low false h = get_or-set_other fs g.entry e true false (differs g.entry e h) ∙ sym (or-false (get_or fs e false))

given_after : (gs : List GivenState) (t : Joined) (e : ℕ) → e < length t.is_given → get_or (fold join t gs).is_given e false ≡ (get_or t.is_given e false || list_any (is_given_to e) gs)
given_after [] t e low = sym (or-false (get_or t.is_given e false))
given_after (g ∷ gs) t e low =
    let long : length (join t g).is_given ≡ length t.is_given = length-set t.is_given g.entry true in
    given_after gs (join t g) e (omega (arith, low, long))
    ∙ ap (λ b. b || list_any (is_given_to e) gs) (given_now t.is_given g e low (nat_eq g.entry e) refl)
    ∙ or_assoc (get_or t.is_given e false) (nat_eq g.entry e) (list_any (is_given_to e) gs)

flags_long : (gs : List GivenState) (t : Joined) → length (fold join t gs).is_given ≡ length t.is_given
flags_long [] t = refl
flags_long (g ∷ gs) t = flags_long gs (join t g) ∙ length-set t.is_given g.entry true

-- whether the round gave each entry a state
given_all : (gs : List GivenState) (ms : List DisambiguateState) → (fold join (before_giving ms) gs).is_given ≡ map (λ e. list_any (is_given_to e) gs) (range_with_len 0 (length ms))
given_all gs ms =
    let first = before_giving ms in
    let first_long : length first.is_given ≡ length ms = length-replicate (length ms) false in
    let long : length (fold join first gs).is_given ≡ length ms = flags_long gs first ∙ first_long in
    let all_long : length (map (λ e. list_any (is_given_to e) gs) (range_with_len 0 (length ms))) ≡ length ms = length-map-range_with_len (λ e. list_any (is_given_to e) gs) 0 (length ms) in
    ext_get_or false (fold join first gs).is_given (map (λ e. list_any (is_given_to e) gs) (range_with_len 0 (length ms))) (long ∙ sym all_long)
    (λ e low.
    let within : e < length ms = omega (arith, low, long) in
    let index : 0 + e ≡ e = omega arith in
    given_after gs first e (omega (arith, within, first_long))
    ∙ ap (λ b. b || list_any (is_given_to e) gs) (get_or-replicate (length ms) e false false within)
    ∙ sym (get_or-map-range_with_len (λ e. list_any (is_given_to e) gs) 0 (length ms) e e false within index))

-- the states so far, and what is left, make what all that was given makes of the states from before
pub record Joins {A : Type 0} (view_of : A → DisambiguateState) (before now : List A) (is_given : List Bool) (all left : List GivenState) : Type 0 where
  pub same : fold join (record { states = map view_of now; is_given = is_given }) left ≡ fold join (before_giving (map view_of before)) all
  pub long : length is_given ≡ length now

pub begins : {A : Type 0} (view_of : A → DisambiguateState) (ms : List A) (fs : List Bool) (all left : List GivenState) → fs ≡ (before_giving (map view_of ms)).is_given → left ≡ all
    → Joins view_of ms ms fs all left
begins view_of ms fs all left none is = record {
  same = λ k. fold join (record { states = map view_of ms; is_given = none k }) (is k);
  long = ap length none ∙ length-replicate (length (map view_of ms)) false ∙ length-map ms view_of;
}

pub goes_on : {A B : Type 0} (view_of : A → DisambiguateState) (view : B → GivenState) (before now new : List A) (fs hs : List Bool) (gs : List B) (i : ℕ) (x : B) (state : DisambiguateState)
    → i < length gs → x ≡ get_or gs i x → Joins view_of before now fs (map view gs) (map view (drop i gs)) → state ≡ (view x).state
    → map view_of new ≡ (joined_at (record { states = map view_of now; is_given = fs }) (view x).entry state).states
    → hs ≡ (joined_at (record { states = map view_of now; is_given = fs }) (view x).entry state).is_given
    → Joins view_of before new hs (map view gs) (map view (drop (i + 1) gs))
goes_on view_of view before now new fs hs gs i x state low is_x inv is_state states flags =
    let t : Joined = record { states = map view_of now; is_given = fs } in
    let next : map view (drop i gs) ≡ view x ∷ map view (drop (i + 1) gs) =
    at_drop_more (map view) gs i x low ∙ ap (λ y. view y ∷ map view (drop (i + 1) gs)) (sym is_x) in
    let joined : map view_of new ≡ (join t (view x)).states = states ∙ ap (λ m. (joined_at t (view x).entry m).states) is_state in
    record {
      same = (λ k. fold join (record { states = joined k; is_given = flags k }) (map view (drop (i + 1) gs))) ∙ ap (fold join t) (sym next) ∙ inv.same;
      long = ap length flags ∙ given_long t (view x) (inv.long ∙ sym (length-map now view_of)) ∙ sym (ap length joined) ∙ length-map new view_of;
    }

pub ends : {A B : Type 0} (view_of : A → DisambiguateState) (view : B → GivenState) (before now : List A) (fs : List Bool) (gs : List B) (i : ℕ) → length gs ≤ i
    → Joins view_of before now fs (map view gs) (map view (drop i gs)) → map view_of now ≡ states_after (map view gs) (map view_of before)
ends view_of view before now fs gs i past inv =
    ap (λ (hs : List GivenState). (fold join (record { states = map view_of now; is_given = fs }) hs).states) (sym (at_drop_all (map view) gs i past))
    ∙ ap (λ (t : Joined). t.states) inv.same
    ∙ joined_all (map view gs) (map view_of before)

-- whether the round gave each entry a state, after all that was given
pub flags_end : {A B : Type 0} (view_of : A → DisambiguateState) (view : B → GivenState) (before now : List A) (fs : List Bool) (gs : List B) (i : ℕ) → length gs ≤ i
    → Joins view_of before now fs (map view gs) (map view (drop i gs)) → fs ≡ map (λ e. list_any (is_given_to e) (map view gs)) (range_with_len 0 (length before))
flags_end view_of view before now fs gs i past inv =
    ap (λ (hs : List GivenState). (fold join (record { states = map view_of now; is_given = fs }) hs).is_given) (sym (at_drop_all (map view) gs i past))
    ∙ ap (λ (t : Joined). t.is_given) inv.same
    ∙ given_all (map view gs) (map view_of before)
    ∙ ap (λ n. map (λ e. list_any (is_given_to e) (map view gs)) (range_with_len 0 n)) (length-map before view_of)

-- a state that is replaced by nothing, and then by one that it is joined with
pub joined_set : {A : Type 0} (view_of : A → DisambiguateState) (ms : List A) (i : ℕ) (empty old made : A) (b : Bool) (x : DisambiguateState) → i < length ms
    → view_of made ≡ joined_with b (view_of (get_or ms i old)) x → map view_of (set (set ms i empty) i made) ≡ set (map view_of ms) i (joined_with b (get_or (map view_of ms) i undisambiguated) x)
joined_set view_of ms i empty old made b x low is_made =
    ap (map view_of) (set-set ms i empty made)
    ∙ map-set view_of ms i made
    ∙ ap (set (map view_of ms) i) (is_made ∙ ap (λ m. joined_with b m x) (sym (get_or-map view_of ms i old undisambiguated low)))
