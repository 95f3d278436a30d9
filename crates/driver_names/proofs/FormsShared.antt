-- The form of a cite that is newly disambiguated is the one that was found before.
use Rattle.std.proofs.Common.{◌≡◌, ℕ, zero, suc, ◌+◌, ◌<◌, ◌≤◌, Bool, true, false, cond, not, ◌&&◌, nat_lt, List, [], ◌∷◌, ◌++◌, map, length, get_or, refl, sym, ap, subst, ◌∙◌, Option, Some, None, arith, lt-ltb, ltb-true, ltb-false}
use Rattle.std.specs.Prelude.{filter, slice_get}
use Rattle.std.specs.List.{flat_map, list_any}
use Rattle.std.specs.Option.{option_and_then, option_map}
use Rattle.std.proofs.Math.Path.{fun_ext}
use Rattle.std.proofs.lemmas.Bool.{false≢true, or_parts}
use Rattle.std.proofs.lemmas.List.{get_or-map, length-map}
use Rattle.std.proofs.lemmas.Simd.{map-map}
use Rattle.literature_values.specs.PersonViews.{Named}
use Rattle.rendering_people.specs.Properties.{Properties, with_name}
use Rattle.driver_names.specs.Names.{Member, agrees_on, all_shown_up_to, distinguished_at, distinguished_by, form_against, form_wanted, is_namesake, is_newly_distinguished, is_own, names_may_change, others, raises, rule_for, showing_up_to, with_raised}
use Rattle.driver_names.specs.NamesViews.{distinction, form_raised}
use Rattle.driver_names.specs.declared.names_members.Distinction.{Distinction}
use Rattle.driver_names.specs.Namesakes.{AreFormsAt, SharePeopleBefore, form_after, forms_after, is_raised, may_be_distinguished, distinction_of}
use Rattle.driver_names.specs.Shared.{shared_people, shares}
use Rattle.driver_names.proofs.NamesShared.{shared_below}
use Rattle.driver_names.proofs.SharedStill.{bare, bare_all, bare_each, shared_one}
use Rattle.rendering_taxonomy.specs.declared.name.DisambiguatedNameForm.{DisambiguatedNameForm}

and_no : (a : Bool) → false ≡ (a && false)
and_no true = refl
and_no false = refl

and_yes : (a : Bool) → a ≡ (a && true)
and_yes true = refl
and_yes false = refl

shown_may : (b : Bool) (m : Member) (ns : Option Properties) → may_be_distinguished (cond b (record m { names = ns }) m) ≡ may_be_distinguished m
shown_may true m ns = refl
shown_may false m ns = refl

disambiguated_may : (b : Bool) (k m : Member) → may_be_distinguished (cond b (record k { is_distinguished = true }) m) ≡ (may_be_distinguished m && not b)
disambiguated_may true k m = and_no (may_be_distinguished m)
disambiguated_may false k m = and_yes (may_be_distinguished m)

-- a cite that is newly disambiguated may not be disambiguated again
new_may : (ms : List Member) (index : ℕ) (m : Member)
    → may_be_distinguished (showing_up_to (index + 1) (distinguished_at ms index m)) ≡ (may_be_distinguished m && not (is_newly_distinguished (index + 1) ms m))
new_may ms index m =
    let distinction_of : Member = distinguished_at ms index m in
    shown_may (names_may_change distinction_of) distinction_of (option_map (with_name (index + 1)) distinction_of.names)
    ∙ disambiguated_may (is_newly_distinguished (index + 1) ms m) (with_raised ms index m) m

-- a cite that may be disambiguated and is not newly disambiguated shares its people
shares_yet : (a b s : Bool) → ((a && b) && not ((a && b) && not s)) ≡ true → s ≡ true
shares_yet a b true h = refl
shares_yet true true false h = absurd (false≢true h)
shares_yet true false false h = absurd (false≢true h)
shares_yet false b false h = absurd (false≢true h)

further_one : (most index : ℕ) (ms : List Member) (m : Member) → index < most → (may_be_distinguished m && not (is_newly_distinguished (index + 1) ms m)) ≡ true → index + 1 ≤ shared_people most ms m
further_one most index ms m low yet =
    let shared : shares (rule_for m) ms m index ≡ true = shares_yet (not m.is_distinguished) (names_may_change m) (list_any (agrees_on (index + 1) m) (others ms m)) yet in
    let above : index < shared_people most ms m = ltb-true index (shared_people most ms m) (shared_below most index ms m low ∙ shared) in
    omega (arith, above)

none_new : (test : Member → Bool) (ms : List Member) (i : ℕ) (d : Member) → list_any test ms ≡ false → i < length ms → test (get_or ms i d) ≡ false
none_new test [] i d none low = absurd (omega (arith, low))
none_new test (m ∷ ms) zero d none low = (or_parts (test m) (list_any test ms) none).0
none_new test (m ∷ ms) (suc i) d none low = none_new test ms i d (or_parts (test m) (list_any test ms) none).1 (omega (arith, low))

-- the view of a cite without what is found of it stays
one_bare : (b : Bool) (ms : List Member) (index i : ℕ) (d : Member) → i < length ms → bare (get_or (cond b (all_shown_up_to ms index) ms) i d) ≡ bare (get_or ms i d)
one_bare true ms index i d low =
    let f = λ (m : Member). showing_up_to (index + 1) (distinguished_at ms index m) in
    ap bare (get_or-map f ms i d d low) ∙ bare_each ms index (get_or ms i d)
one_bare false ms index i d low = refl

yet_cases : (most index : ℕ) (ms : List Member) (i : ℕ) (d : Member) (b : Bool) → index < most → i < length ms → list_any (is_newly_distinguished (index + 1) ms) ms ≡ b
    → may_be_distinguished (get_or (cond b (all_shown_up_to ms index) ms) i d) ≡ true → index + 1 ≤ shared_people most ms (get_or ms i d)
yet_cases most index ms i d true low within is may =
    let f = λ (m : Member). showing_up_to (index + 1) (distinguished_at ms index m) in
    further_one most index ms (get_or ms i d) low (sym (ap may_be_distinguished (get_or-map f ms i d d within) ∙ new_may ms index (get_or ms i d)) ∙ may)
yet_cases most index ms i d false low within is may =
    let m : Member = get_or ms i d in
    further_one most index ms m low (ap (λ b. may_be_distinguished m && not b) (none_new (is_newly_distinguished (index + 1) ms) ms i d is within) ∙ sym (and_yes (may_be_distinguished m)) ∙ may)

shown_length : (b : Bool) (ms : List Member) (index : ℕ) → length (cond b (all_shown_up_to ms index) ms) ≡ length ms
shown_length true ms index = length-map ms (λ m. showing_up_to (index + 1) (distinguished_at ms index m))
shown_length false ms index = refl

people_shared_before : (most index : ℕ) (ms : List Member) (b : Bool) → index < most → list_any (is_newly_distinguished (index + 1) ms) ms ≡ b → SharePeopleBefore most (index + 1) (cond b (all_shown_up_to ms index) ms)
people_shared_before most index ms b low is i d within may =
    let new : List Member = cond b (all_shown_up_to ms index) ms in
    let there : i < length ms = omega (arith, within, shown_length b ms index) in
    let same : shared_people most new (get_or new i d) ≡ shared_people most ms (get_or ms i d) =
    sym (shared_one most new (get_or new i d))
    ∙ (λ k. shared_people most (bare_all b ms index k) (one_bare b ms index i d there k))
    ∙ shared_one most ms (get_or ms i d) in
    omega (arith, same, yet_cases most index ms i d b low there is may)

-- the next index is on time as well
pub share_next : (most index : ℕ) (ms new : List Member) → index < most → new ≡ distinguished_by ms index → SharePeopleBefore most (index + 1) new
share_next most index ms new low distinction_of =
    subst (SharePeopleBefore most (index + 1)) (sym distinction_of) (people_shared_before most index ms (list_any (is_newly_distinguished (index + 1) ms) ms) low refl)

-- the first index is
pub share_first : (most : ℕ) (ms : List Member) → SharePeopleBefore most 0 ms
share_first most ms i d within may = omega arith

alone : (a b s : Bool) → ((a && b) && not s) ≡ true → s ≡ false
alone a b false h = refl
alone true true true h = absurd (false≢true h)
alone true false true h = absurd (false≢true h)
alone false b true h = absurd (false≢true h)

may_so : (a b s : Bool) → ((a && b) && not s) ≡ true → (a && b) ≡ true
may_so true true s h = refl
may_so true false s h = absurd (false≢true h)
may_so false b s h = absurd (false≢true h)

-- a cite that is newly disambiguated shares as many people as the index has before it, so its form is the one that was found
pub form_now : (most index i : ℕ) (ms : List Member) (d : Member) → index < most → i < length ms → SharePeopleBefore most index ms → is_newly_distinguished (index + 1) ms (get_or ms i d) ≡ true
    → form_after most ms (get_or ms i d) ≡ form_raised ms index (get_or ms i d)
form_now most index i ms d low within share_before newly =
    let m : Member = get_or ms i d in
    let many : ℕ = shared_people most ms m in
    let apart : shares (rule_for m) ms m index ≡ false = alone (not m.is_distinguished) (names_may_change m) (list_any (agrees_on (index + 1) m) (others ms m)) newly in
    let below : many ≤ index = ltb-false index many (shared_below most index ms m low ∙ apart) in
    let above : index ≤ many = share_before i d within (may_so (not m.is_distinguished) (names_may_change m) (list_any (agrees_on (index + 1) m) (others ms m)) newly) in
    let same : many ≡ index = omega (arith, below, above) in
    ap (λ n. cond (is_raised most n m) (form_wanted ms m n) None) same
    ∙ ap (λ b. cond (raises (rule_for m) && b) (form_wanted ms m index) None) (lt-ltb index most low)
    ∙ ap (λ b. cond b (form_wanted ms m index) None) (sym (and_yes (raises (rule_for m))))

people_step : (b : Bool) (m : Member) (xs ys : List Member) → flat_map (λ o. o.people) xs ≡ flat_map (λ o. o.people) ys → flat_map (λ o. o.people) (cond b (bare m ∷ xs) xs) ≡ flat_map (λ o. o.people) (cond b (m ∷ ys) ys)
people_step true m xs ys same = ap (λ ps. m.people ++ ps) same
people_step false m xs ys same = same

-- people of the other cites
people_bare : (m : Member) (ms : List Member) → flat_map (λ o. o.people) (others (map bare ms) (bare m)) ≡ flat_map (λ o. o.people) (others ms m)
people_bare m [] = refl
people_bare m (o ∷ os) = people_step (not (is_own m o)) o (others (map bare os) (bare m)) (others os m) (people_bare m os)

form_bare : (ms : List Member) (most index : ℕ) (m : Member) → cond (is_raised most index m) (form_wanted (map bare ms) (bare m) index) None ≡ cond (is_raised most index m) (form_wanted ms m index) None
form_bare ms most index m =
    ap (λ (qs : List Named). cond (is_raised most index m) (option_and_then (λ p. form_against p (filter (is_namesake p) qs)) (slice_get m.people index)) None) (people_bare m ms)

forms_bare : (most : ℕ) (ms : List Member) → forms_after most (map bare ms) ≡ forms_after most ms
forms_bare most ms =
    map-map (form_after most (map bare ms)) bare ms
    ∙ ap (λ f. map f ms)
    (fun_ext (λ m. ap (λ n. cond (is_raised most n (bare m)) (form_wanted (map bare ms) (bare m) n) None) (shared_one most ms m) ∙ form_bare ms most (shared_people most ms m) m))

-- the forms that were found stay, after some cites were disambiguated
pub forms_still : (most index : ℕ) (ms new : List Member) (forms : List (Option DisambiguatedNameForm)) → forms ≡ forms_after most ms → new ≡ distinguished_by ms index → forms ≡ forms_after most new
forms_still most index ms new forms is distinction_of =
    is
    ∙ sym (forms_bare most ms)
    ∙ ap (forms_after most) (sym (bare_all (list_any (is_newly_distinguished (index + 1) ms) ms) ms index))
    ∙ forms_bare most (distinguished_by ms index)
    ∙ ap (forms_after most) (sym distinction_of)

-- the forms that were found are those at an index, where the cites share as many people as the index has before it
pub forms_at : (most index : ℕ) (ms : List Member) (forms : List (Option DisambiguatedNameForm)) → index < most → SharePeopleBefore most index ms → forms ≡ forms_after most ms → AreFormsAt index ms forms
forms_at most index ms forms low share_before are = λ i d e within newly.
    ap (λ fs. get_or fs i e) are ∙ get_or-map (form_after most ms) ms i d e within ∙ form_now most index i ms d low within share_before newly

abbrev distinction_by : Option DisambiguatedNameForm → Distinction
distinction_by form = record { form = form }

distinction_cases : (b c : Bool) (f g : Option DisambiguatedNameForm) → b ≡ c → (c ≡ true → f ≡ g) → cond b (Some (distinction_by f)) None ≡ cond c (Some (distinction_by g)) None
distinction_cases true true f g same form = ap (λ h. Some (distinction_by h)) (form refl)
distinction_cases false false f g same form = refl
distinction_cases true false f g same form = absurd (false≢true (sym same))
distinction_cases false true f g same form = absurd (false≢true same)

-- what is found of a cite by how many people it shares and by its form
pub distinction_is : (ms : List Member) (index i shared : ℕ) (m : Member) (forms : List (Option DisambiguatedNameForm)) (e : Option DisambiguatedNameForm) → m ≡ get_or ms i m → i < length ms
    → nat_lt index shared ≡ shares (rule_for m) ms m index → AreFormsAt index ms forms → distinction_of index shared (get_or forms i e) m ≡ distinction ms index m
distinction_is ms index i shared m forms e at low is are =
    distinction_cases (may_be_distinguished m && not (nat_lt index shared)) (is_newly_distinguished (index + 1) ms m) (get_or forms i e) (form_raised ms index m)
    (ap (λ b. may_be_distinguished m && not b) is)
    (λ newly. are i m e low (ap (is_newly_distinguished (index + 1) ms) (sym at) ∙ newly) ∙ ap (form_raised ms index) (sym at))
