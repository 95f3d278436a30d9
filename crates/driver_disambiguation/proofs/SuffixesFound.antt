-- Year suffixes that are found one after the other are those of each entry.
use Rattle.std.proofs.Common.{arith, ◌≡◌, ℕ, zero, suc, ◌+◌, ◌<◌, ◌≤◌, Bool, true, false, cond, ◌&&◌, List, [], ◌∷◌, map, length, drop, get_or, set, replicate, fold, Option, Some, None, refl, sym, ap, ◌∙◌}
use Rattle.std.specs.Prelude.{nat_eq}
use Rattle.std.specs.List.{enumerate_from}
use Rattle.std.specs.Option.{option_and_then, option_map, option_or}
use Rattle.std.proofs.lemmas.Bool.{eqb-true}
use Rattle.std.proofs.lemmas.List.{at_drop_more, at_drop_all, ext_get_or, get_or-map, get_or-set_same, get_or-set_other, get_or-replicate, length-set, map-set, length-map, length-replicate}
use Rattle.std.proofs.lemmas.List.FromFn.{get_or-enumerate_from, length-enumerate_from}
use Rattle.rendering_context.specs.Cites.{DisambiguateState, undisambiguated}
use Rattle.driver_requests.specs.Suffixes.{Suffix}
use Rattle.driver_disambiguation.specs.States.{States, is_suffix, giver_of, suffix_given, suffix_by, suffix_index}
use Rattle.driver_names.specs.Prints.{GivenState}
use Rattle.driver_disambiguation.specs.SuffixesFound.{suffixes_by, suffix_if_given, suffix_if, found_with}
use Rattle.driver_disambiguation.proofs.JoiningStates.{differs}

abbrev suffix_from : ℕ → GivenState → Suffix
suffix_from n g = record { index = n; origin = g.origin }

view_or : (n : ℕ) (g : GivenState) (b : Bool) (r : Option GivenState)
    → option_map (λ (h : GivenState). suffix_from n h) (cond b (Some g) r) ≡ cond b (Some (suffix_from n g)) (option_map (λ (h : GivenState). suffix_from n h) r)
view_or n g true r = refl
view_or n g false r = refl

-- year suffixes that one more may have given
given_first : (n e : ℕ) (g : GivenState) (gs : List GivenState) (b : Bool) → nat_eq g.entry e ≡ b
    → suffix_given e (g ∷ gs) n ≡ cond (b && is_suffix n g.state) (Some (suffix_from n g)) (suffix_given e gs n)
given_first n e g gs b h =
    (λ k. option_map (λ (x : GivenState). suffix_from n x) (cond (h k && is_suffix n g.state) (Some g) (giver_of n e gs))) ∙ view_or n g (b && is_suffix n g.state) (giver_of n e gs)

one_or : (b : Bool) (x : Suffix) (r : Option Suffix) → option_or (cond b (Some x) None) r ≡ cond b (Some x) r
one_or true x r = refl
one_or false x r = refl

own : (p : Option ℕ) (e : ℕ) (g : GivenState) (gs : List GivenState) → nat_eq g.entry e ≡ true
    → option_or (option_and_then (suffix_if_given g) p) (option_and_then (suffix_given e gs) p) ≡ option_and_then (suffix_given e (g ∷ gs)) p
own None e g gs h = refl
own (Some n) e g gs h = one_or (is_suffix n g.state) (suffix_from n g) (suffix_given e gs n) ∙ sym (given_first n e g gs true h)

of_another : (p : Option ℕ) (e : ℕ) (g : GivenState) (gs : List GivenState) → nat_eq g.entry e ≡ false
    → option_and_then (suffix_given e gs) p ≡ option_and_then (suffix_given e (g ∷ gs)) p
of_another None e g gs h = refl
of_another (Some n) e g gs h = sym (given_first n e g gs false h)

onto : (s a r t : Option Suffix) → option_or a r ≡ t → option_or (option_or s a) r ≡ option_or s t
onto None a r t h = h
onto (Some x) a r t h = refl

step : (ms : States) (ss : List (Option Suffix)) (g : GivenState) (gs : List GivenState) (e : ℕ) → e < length ss → (b : Bool) → nat_eq g.entry e ≡ b
    → option_or (get_or (found_with ms ss g) e None) (suffix_by (get_or ms e undisambiguated) e gs) ≡ option_or (get_or ss e None) (suffix_by (get_or ms e undisambiguated) e (g ∷ gs))
step ms ss g gs e low true h =
    let same : g.entry ≡ e = eqb-true g.entry e h in
    let state = get_or ms e undisambiguated in
    let read : get_or (found_with ms ss g) e None ≡ option_or (get_or ss e None) (suffix_if state g) =
    (λ k. get_or (set ss (same k) (option_or (get_or ss (same k) None) (suffix_if (get_or ms (same k) undisambiguated) g))) e None)
    ∙ get_or-set_same ss e (option_or (get_or ss e None) (suffix_if state g)) None low in
    ap (λ s. option_or s (suffix_by state e gs)) read
    ∙ onto (get_or ss e None) (suffix_if state g) (suffix_by state e gs) (suffix_by state e (g ∷ gs)) (own (suffix_index state) e g gs h)
step ms ss g gs e low false h =
    let state = get_or ms e undisambiguated in
    let other = option_or (get_or ss g.entry None) (suffix_if (get_or ms g.entry undisambiguated) g) in
    let read : get_or (found_with ms ss g) e None ≡ get_or ss e None = get_or-set_other ss g.entry e other None (differs g.entry e h) in
    λ k. option_or (read k) (of_another (suffix_index state) e g gs h k)

or_none : (s : Option Suffix) (p : Option ℕ) (e : ℕ) → s ≡ option_or s (option_and_then (suffix_given e []) p)
or_none None None e = refl
or_none None (Some n) e = refl
or_none (Some x) p e = refl

found : (ms : States) (gs : List GivenState) (ss : List (Option Suffix)) (e : ℕ) → e < length ss
    → get_or (fold (found_with ms) ss gs) e None ≡ option_or (get_or ss e None) (suffix_by (get_or ms e undisambiguated) e gs)
found ms [] ss e low = or_none (get_or ss e None) (suffix_index (get_or ms e undisambiguated)) e
found ms (g ∷ gs) ss e low =
    let long : length (found_with ms ss g) ≡ length ss =
    length-set ss g.entry (option_or (get_or ss g.entry None) (suffix_if (get_or ms g.entry undisambiguated) g)) in
    found ms gs (found_with ms ss g) e (omega (arith, low, long)) ∙ step ms ss g gs e low (nat_eq g.entry e) refl

long_found : (ms : States) (gs : List GivenState) (ss : List (Option Suffix)) → length (fold (found_with ms) ss gs) ≡ length ss
long_found ms [] ss = refl
long_found ms (g ∷ gs) ss =
    long_found ms gs (found_with ms ss g) ∙ length-set ss g.entry (option_or (get_or ss g.entry None) (suffix_if (get_or ms g.entry undisambiguated) g))

at_entry : (ms : States) (gs : List GivenState) (e : ℕ) → e < length ms → get_or (suffixes_by ms gs) e None ≡ suffix_by (get_or ms e undisambiguated) e gs
at_entry ms gs e low =
    let long : length (enumerate_from 0 ms) ≡ length ms = length-enumerate_from 0 ms in
    let index : 0 + e ≡ e = omega arith in
    let read : get_or (enumerate_from 0 ms) e (0, undisambiguated) ≡ (e, get_or ms e undisambiguated) =
    get_or-enumerate_from 0 ms e (0, undisambiguated) low ∙ (λ k. (index k, get_or ms e undisambiguated)) in
    get_or-map (λ (p : ℕ × DisambiguateState). suffix_by p.1 p.0 gs) (enumerate_from 0 ms) e (0, undisambiguated) None (omega (arith, low, long))
    ∙ ap (λ (p : ℕ × DisambiguateState). suffix_by p.1 p.0 gs) read

found_all : (ms : States) (gs : List GivenState) → fold (found_with ms) (replicate (length ms) None) gs ≡ suffixes_by ms gs
found_all ms gs =
    let first : List (Option Suffix) = replicate (length ms) None in
    let first_long : length first ≡ length ms = length-replicate (length ms) None in
    let long : length (fold (found_with ms) first gs) ≡ length ms = long_found ms gs first ∙ first_long in
    let all_long : length (suffixes_by ms gs) ≡ length ms =
    length-map (enumerate_from 0 ms) (λ (p : ℕ × DisambiguateState). suffix_by p.1 p.0 gs) ∙ length-enumerate_from 0 ms in
    ext_get_or None (fold (found_with ms) first gs) (suffixes_by ms gs) (long ∙ sym all_long)
    (λ e low.
    let within : e < length ms = omega (arith, low, long) in
    found ms gs first e (omega (arith, within, first_long))
    ∙ ap (λ s. option_or s (suffix_by (get_or ms e undisambiguated) e gs)) (get_or-replicate (length ms) e None None within)
    ∙ sym (at_entry ms gs e within))

-- what was found so far, and what is left, make what all that was given makes
abbrev pub Finds : States → List (Option Suffix) → List GivenState → List GivenState → Type 0
Finds ms ss all left = fold (found_with ms) ss left ≡ suffixes_by ms all

nothing_view : {A B : Type 0} (f : Option A → Option B) → f None ≡ None → (n : ℕ) → map f (replicate n None) ≡ replicate n None
nothing_view f h zero = refl
nothing_view f h (suc n) = λ k. h k ∷ nothing_view f h n k

pub finds_first : {A B C : Type 0} (view_of : Option A → Option Suffix) (as_state : C → DisambiguateState) (view : B → GivenState) (ms : List C) (ss : List (Option A)) (gs : List B)
    → view_of None ≡ None → ss ≡ replicate (length ms) None → Finds (map as_state ms) (map view_of ss) (map view gs) (map view gs)
finds_first view_of as_state view ms ss gs nothing none =
    ap (λ ts. fold (found_with (map as_state ms)) (map view_of ts) (map view gs)) none
    ∙ ap (λ ts. fold (found_with (map as_state ms)) ts (map view gs)) (nothing_view view_of nothing (length ms))
    ∙ ap (λ n. fold (found_with (map as_state ms)) (replicate n None) (map view gs)) (sym (length-map ms as_state))
    ∙ found_all (map as_state ms) (map view gs)

pub finds_more : {A B : Type 0} (view_of : A → Option Suffix) (view : B → GivenState) (ms : States) (ss new : List A) (gs : List B) (i : ℕ) (x : B) → i < length gs → x ≡ get_or gs i x
    → Finds ms (map view_of ss) (map view gs) (map view (drop i gs)) → map view_of new ≡ found_with ms (map view_of ss) (view x)
    → Finds ms (map view_of new) (map view gs) (map view (drop (i + 1) gs))
finds_more view_of view ms ss new gs i x low is_x before after =
    let next : map view (drop i gs) ≡ view x ∷ map view (drop (i + 1) gs) =
    at_drop_more (map view) gs i x low ∙ ap (λ y. view y ∷ map view (drop (i + 1) gs)) (sym is_x) in
    ap (λ ts. fold (found_with ms) ts (map view (drop (i + 1) gs))) after ∙ ap (fold (found_with ms) (map view_of ss)) (sym next) ∙ before

pub finds_all : {A B : Type 0} (view_of : A → Option Suffix) (view : B → GivenState) (ms : States) (ss : List A) (gs : List B) (i : ℕ) → length gs ≤ i
    → Finds ms (map view_of ss) (map view gs) (map view (drop i gs)) → map view_of ss ≡ suffixes_by ms (map view gs)
finds_all view_of view ms ss gs i past before = ap (fold (found_with ms) (map view_of ss)) (sym (at_drop_all (map view) gs i past)) ∙ before

-- one entry's year suffix
pub found_set : {A C : Type 0} (view_of : A → Option Suffix) (as_state : C → DisambiguateState) (ms : List C) (ss : List A) (e : ℕ) (g : GivenState) (s made : A) (m : C) (other : Option Suffix)
    → g.entry ≡ e → e < length ss → e < length ms → s ≡ get_or ss e s → m ≡ get_or ms e m → view_of made ≡ option_or (view_of s) other → other ≡ suffix_if (as_state m) g
    → map view_of (set ss e made) ≡ found_with (map as_state ms) (map view_of ss) g
found_set view_of as_state ms ss e g s made m other same low in_states is_s is_m is_made is_other =
    let own : view_of s ≡ get_or (map view_of ss) e None = ap view_of is_s ∙ sym (get_or-map view_of ss e s None low) in
    let state : as_state m ≡ get_or (map as_state ms) e undisambiguated = ap as_state is_m ∙ sym (get_or-map as_state ms e m undisambiguated in_states) in
    map-set view_of ss e made
    ∙ ap (set (map view_of ss) e) (is_made ∙ (λ k. option_or (own k) ((is_other ∙ ap (λ x. suffix_if x g) state) k)))
    ∙ (λ k. set (map view_of ss) (sym same k) (option_or (get_or (map view_of ss) (sym same k) None) (suffix_if (get_or (map as_state ms) (sym same k) undisambiguated) g)))
