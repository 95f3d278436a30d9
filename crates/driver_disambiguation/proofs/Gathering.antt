-- What a round gives, class by class.
use Rattle.std.proofs.Common.{◌≡◌, ℕ, ◌+◌, ◌<◌, ◌≤◌, Bool, true, false, cond, ◌||◌, List, [], ◌∷◌, ◌++◌, map, length, drop, get_or, Option, Some, None, refl, sym, ap, ◌∙◌}
use Rattle.std.specs.Prelude.{filter, nat_eq, Ok, Err}
use Rattle.std.specs.Borrow.{Bor}
use Rattle.std.specs.List.{list_any, flat_map}
use Rattle.std.proofs.lemmas.List.{at_drop_more, at_drop_all, append_assoc, map-append}
use Rattle.std.proofs.lemmas.List.Folds.{list_any-append}
use Rattle.laws.specs.Results.{EndsWith}
use Rattle.rendering_people.specs.Properties.{Properties, prints_more}
use Rattle.rendering_context.specs.Cites.{by_names, may_change}
use Rattle.driver_requests.specs.Errors.{Overflow, overflow}
use Rattle.driver_requests.specs.Suffixes.{Origin}
use Rattle.driver_disambiguation.specs.States as states
use Rattle.driver_names.specs.Prints.{GivenState}
use Rattle.driver_disambiguation.specs.States.{is_given_to, suffixes_overflow}
use Rattle.driver_names.specs.Prints as prints
use Rattle.driver_names.specs.Names.{Member, distinguished, own_names, states_by_names_of, states_by_names}
use Rattle.driver_disambiguation.specs.Rounds as rounds
use Rattle.driver_disambiguation.specs.Rounds.{chosen, states_by_choose, choose_beside, states_by_branches, states_by_suffixes, is_given_to_class, unless_given}
use Rattle.laws.proofs.Results.{guard_ok, ok_is}
use Rattle.driver_disambiguation.specs.Gathered.{AllInRange, given_from, given_to_classes}
use Rattle.driver_names.specs.Views.{class_view, given_view, given_states_view}
use Rattle.driver_disambiguation.specs.Views.{unless_beyond}
use Rattle.driver_names.specs.declared.given_state.GivenState as code
use Rattle.driver_names.specs.declared.printed.Printed.{Printed}

-- what is put together of what is in range
pub in_range_together : (gs hs : List GivenState) → AllInRange gs → AllInRange hs → AllInRange (gs ++ hs)
in_range_together gs hs first second = list_any-append (λ g. states.is_beyond g.state) gs hs ∙ (λ k. first k || second k)

-- what is made of each element is in range
in_range_each : {X : Type 0} (h : X → List GivenState) → ((x : X) → AllInRange (h x)) → (xs : List X) → AllInRange (flat_map h xs)
in_range_each h each [] = refl
in_range_each h each (x ∷ xs) = in_range_together (h x) (flat_map h xs) (each x) (in_range_each h each xs)

one_of_names : (b : Bool) (entry : ℕ) (o : Origin) (new : Properties) → AllInRange (cond b (record { entry = entry; state = by_names new; origin = o } ∷ []) [])
one_of_names true entry o new = refl
one_of_names false entry o new = refl

in_range_named : (entry : ℕ) (o : Origin) (old new : Option Properties) → AllInRange (states_by_names_of entry o old new)
in_range_named entry o None new = refl
in_range_named entry o (Some old) None = refl
in_range_named entry o (Some old) (Some new) = one_of_names (prints_more new old) entry o new

-- names are in range
pub in_range_names : (adds_names : Bool) (o : Origin) (ss : List prints.Printed) → AllInRange (states_by_names adds_names o ss)
in_range_names adds_names o ss =
    in_range_each {X = Member} (λ m. states_by_names_of m.cite.entry o (own_names m.cite) m.names) (λ m. in_range_named m.cite.entry o (own_names m.cite) m.names) (distinguished adds_names ss)

one_beside : (b : Bool) (g : GivenState) → AllInRange (g ∷ []) → AllInRange (cond b [] (g ∷ []))
one_beside true g has = refl
one_beside false g has = has

in_range_all : (o : Origin) (ss : List prints.Printed) → AllInRange (map (chosen o) ss)
in_range_all o [] = refl
in_range_all o (s ∷ ss) = in_range_all o ss

either_in_range : (b : Bool) (gs hs : List GivenState) → AllInRange gs → AllInRange hs → AllInRange (cond b gs hs)
either_in_range true gs hs first second = first
either_in_range false gs hs first second = second

in_range_chosen : (o : Origin) (ss : List prints.Printed) → AllInRange (states_by_choose o ss)
in_range_chosen o [] = refl
in_range_chosen o (s ∷ ss) =
    either_in_range s.first_chooses_too (map (chosen o) (s ∷ ss)) (flat_map (choose_beside o s.entry) ss) (in_range_all o (s ∷ ss))
    (in_range_each (choose_beside o s.entry) (λ t. one_beside (nat_eq t.entry s.entry) _ refl) ss)

one_of_two : (b : Bool) (gs : List GivenState) → AllInRange gs → AllInRange (cond b gs [])
one_of_two true gs has = has
one_of_two false gs has = refl

-- branches are in range
pub in_range_branches : (o : Origin) (ss : List prints.Printed) → AllInRange (states_by_branches o ss)
in_range_branches o ss =
    let met = filter (λ s. s.met_disambiguate) ss in
    one_of_two (list_any (λ s. may_change s.state) met) (states_by_choose o met) (in_range_chosen o met)

more_or_not : (b : Bool) (gs more : List GivenState) → AllInRange gs → AllInRange more → AllInRange (cond b gs (gs ++ more))
more_or_not true gs more first second = first
more_or_not false gs more first second = in_range_together gs more first second

pub in_range_while : (ss : List prints.Printed) (more gs : List GivenState) → AllInRange gs → AllInRange more → AllInRange (unless_given ss more gs)
in_range_while ss more gs first second = more_or_not (is_given_to_class gs ss) gs more first second

still_more : (gs hs : List GivenState) → suffixes_overflow gs ≡ true → suffixes_overflow (gs ++ hs) ≡ true
still_more gs hs over = list_any-append (λ g. states.is_beyond g.state) gs hs ∙ (λ k. over k || suffixes_overflow hs)

still_or_not : (b : Bool) (gs more : List GivenState) → suffixes_overflow gs ≡ true → suffixes_overflow (cond b gs (gs ++ more)) ≡ true
still_or_not true gs more over = over
still_or_not false gs more over = still_more gs more over

-- year suffixes beyond the last stay so
still_while : (ss : List prints.Printed) (more gs : List GivenState) → suffixes_overflow gs ≡ true → suffixes_overflow (unless_given ss more gs) ≡ true
still_while ss more gs over = still_or_not (is_given_to_class gs ss) gs more over

still_given : (adds_names has_dates : Bool) (gs : List GivenState) (o : Origin) (ss : List prints.Printed) → suffixes_overflow gs ≡ true
    → suffixes_overflow (rounds.given_by adds_names has_dates gs o ss) ≡ true
still_given adds_names has_dates gs o ss over = still_while ss _ _ (still_while ss _ _ (still_more gs _ over))

pub still_from : (adds_names has_dates : Bool) (round n : ℕ) (cs : List (List prints.Printed)) (gs : List GivenState) → suffixes_overflow gs ≡ true
    → suffixes_overflow (given_from adds_names has_dates round n cs gs) ≡ true
still_from adds_names has_dates round n [] gs over = over
still_from adds_names has_dates round n (c ∷ cs) gs over =
    still_from adds_names has_dates round (n + 1) cs _ (still_given adds_names has_dates gs (record { round = round; class = n }) c over)

-- what is refused has year suffixes beyond the last
over_of : (b : Bool) (gs : List GivenState) (e : Overflow) → cond b (Err overflow) (Ok gs) ≡ Err e → b ≡ true
over_of true gs e h = refl
over_of false gs e h = absurd cc

refused_by : (b : Bool) (gs : List GivenState) (e : Overflow) → b ≡ true → cond b (Err overflow) (Ok gs) ≡ Err e
refused_by true gs overflow h = refl
refused_by false gs overflow h = absurd cc

-- a refusal of what is given stays one
pub refused : (refusal : Option Overflow) (gs all : List GivenState) → (suffixes_overflow gs ≡ true → suffixes_overflow all ≡ true) → EndsWith refusal (unless_beyond gs)
    → EndsWith refusal (unless_beyond all)
refused None gs all still ends = tt
refused (Some e) gs all still ends = refused_by (suffixes_overflow all) all e (still (over_of (suffixes_overflow gs) gs e ends))

-- a set of the entries to which something was given tells if a class has one of them
pub any_given_to_class : (gs : List GivenState) (test : ℕ → Bool) → ((e : ℕ) → test e ≡ list_any (is_given_to e) gs) → (xs : List (Bor Printed))
    → list_any (λ s. test s.now.cite.entry) xs ≡ is_given_to_class gs (class_view xs)
any_given_to_class gs test same [] = refl
any_given_to_class gs test same (x ∷ xs) = λ k. same x.now.cite.entry k || any_given_to_class gs test same xs k

among : (a b : Bool) → cond a true b ≡ (b || (a || false))
among true true = refl
among true false = refl
among false true = refl
among false false = refl

-- the entry of one state more
pub entry_added : (gs : List GivenState) (g : GivenState) (e : ℕ) (old : Bool) → old ≡ list_any (is_given_to e) gs → cond (nat_eq g.entry e) true old ≡ list_any (is_given_to e) (gs ++ g ∷ [])
entry_added gs g e old before =
    (λ k. cond (nat_eq g.entry e) true (before k)) ∙ among (nat_eq g.entry e) (list_any (is_given_to e) gs) ∙ sym (list_any-append (is_given_to e) gs (g ∷ []))

-- one state more
pub pushed_one : (old new : List code.GivenState) (one : code.GivenState) → new ≡ old ++ one ∷ [] → given_states_view new ≡ given_states_view old ++ given_view one ∷ []
pushed_one old new one after = ap given_states_view after ∙ map-append given_view old (one ∷ [])

pub appended_more : (start : List GivenState) (yielded : List code.GivenState) (one : code.GivenState) (old new : List GivenState) → old ≡ start ++ given_states_view yielded → new ≡ old ++ given_states_view (one ∷ [])
    → new ≡ start ++ given_states_view (yielded ++ one ∷ [])
appended_more start yielded one old new before after =
    after
    ∙ (λ k. before k ++ given_states_view (one ∷ []))
    ∙ append_assoc start (given_states_view yielded) (given_states_view (one ∷ []))
    ∙ ap (λ gs. start ++ gs) (sym (map-append given_view yielded (one ∷ [])))

-- what names and branches gave is in range
pub in_range_before_suffixes : (adds_names : Bool) (o : Origin) (ss : List prints.Printed) (old more mid new : List GivenState)
    → AllInRange old → more ≡ states_by_names adds_names o ss → mid ≡ old ++ more → new ≡ unless_given ss (states_by_branches o ss) mid → AllInRange new
in_range_before_suffixes adds_names o ss old more mid new has named together branched =
    let named_has : AllInRange more = ap suffixes_overflow named ∙ in_range_names adds_names o ss in
    let mid_has : AllInRange mid = ap suffixes_overflow together ∙ in_range_together old more has named_has in
    ap suffixes_overflow branched ∙ in_range_while ss (states_by_branches o ss) mid mid_has (in_range_branches o ss)

-- names, then branches, then year suffixes are what a class adds
pub given_in_turn : (adds_names has_dates : Bool) (o : Origin) (ss : List prints.Printed) (old more mid new : List GivenState)
    → more ≡ states_by_names adds_names o ss → mid ≡ old ++ more → new ≡ unless_given ss (states_by_branches o ss) mid
    → unless_given ss (states_by_suffixes has_dates o ss) new ≡ rounds.given_by adds_names has_dates old o ss
given_in_turn adds_names has_dates o ss old more mid new named together branched =
    ap (unless_given ss (states_by_suffixes has_dates o ss)) (branched ∙ ap (unless_given ss (states_by_branches o ss)) (together ∙ ap (λ gs. old ++ gs) named))

-- what was given is in range, and what is left of the classes makes of it what all of them make
abbrev pub Gathers : Bool → Bool → ℕ → List (List prints.Printed) → ℕ → List (List prints.Printed) → List GivenState → Type 0
Gathers adds_names has_dates round all n left gs =
    AllInRange gs × (given_to_classes adds_names has_dates round all ≡ given_from adds_names has_dates round n left gs)

indexed : (gs hs : List GivenState) → unless_beyond gs ≡ Ok hs → AllInRange hs × (gs ≡ hs)
indexed gs hs e =
    let p = guard_ok (suffixes_overflow gs) (Ok gs) overflow hs e in
    let same : gs ≡ hs = ok_is {F = Overflow} gs hs p.1 in
    (ap suffixes_overflow (sym same) ∙ p.0, same)

one_class : {X : Type 0} (view : X → List prints.Printed) (adds_names has_dates : Bool) (round : ℕ) (cs : List X) (i : ℕ) (x : X) (gs : List GivenState)
    → i < length cs → x ≡ get_or cs i x → Gathers adds_names has_dates round (map view cs) i (map view (drop i cs)) gs
    → given_to_classes adds_names has_dates round (map view cs)
    ≡ given_from adds_names has_dates round (i + 1) (map view (drop (i + 1) cs)) (rounds.given_by adds_names has_dates gs (record { round = round; class = i }) (view x))
one_class view adds_names has_dates round cs i x gs low is_x before =
    before.1
    ∙ at_drop_more (λ ys. given_from adds_names has_dates round i (map view ys) gs) cs i x low
    ∙ ap (λ y. given_from adds_names has_dates round i (view y ∷ map view (drop (i + 1) cs)) gs) (sym is_x)

pub gathers_more : {X : Type 0} (view : X → List prints.Printed) (adds_names has_dates : Bool) (round : ℕ) (cs : List X) (i : ℕ) (x : X) (gs hs : List GivenState)
    → i < length cs → x ≡ get_or cs i x → Gathers adds_names has_dates round (map view cs) i (map view (drop i cs)) gs
    → unless_beyond (rounds.given_by adds_names has_dates gs (record { round = round; class = i }) (view x)) ≡ Ok hs
    → Gathers adds_names has_dates round (map view cs) (i + 1) (map view (drop (i + 1) cs)) hs
gathers_more view adds_names has_dates round cs i x gs hs low is_x before gives =
    let p = indexed (rounds.given_by adds_names has_dates gs (record { round = round; class = i }) (view x)) hs gives in
    (p.0, one_class view adds_names has_dates round cs i x gs low is_x before ∙ ap (given_from adds_names has_dates round (i + 1) (map view (drop (i + 1) cs))) p.1)

pub gathers_all : {X : Type 0} (view : X → List prints.Printed) (adds_names has_dates : Bool) (round : ℕ) (cs : List X) (i : ℕ) (gs : List GivenState)
    → length cs ≤ i → Gathers adds_names has_dates round (map view cs) i (map view (drop i cs)) gs
    → unless_beyond (given_to_classes adds_names has_dates round (map view cs)) ≡ Ok gs
gathers_all view adds_names has_dates round cs i gs past before =
    ap unless_beyond (before.1 ∙ at_drop_all (λ ys. given_from adds_names has_dates round i (map view ys) gs) cs i past)
    ∙ (λ k. cond (before.0 k) (Err overflow) (Ok gs))

pub gathers_refused : {X : Type 0} (view : X → List prints.Printed) (adds_names has_dates : Bool) (round : ℕ) (cs : List X) (i : ℕ) (x : X) (gs : List GivenState)
    (refusal : Option Overflow) → i < length cs → x ≡ get_or cs i x → Gathers adds_names has_dates round (map view cs) i (map view (drop i cs)) gs
    → EndsWith refusal (unless_beyond (rounds.given_by adds_names has_dates gs (record { round = round; class = i }) (view x)))
    → EndsWith refusal (unless_beyond (given_to_classes adds_names has_dates round (map view cs)))
gathers_refused view adds_names has_dates round cs i x gs refusal low is_x before ends =
    let given = rounds.given_by adds_names has_dates gs (record { round = round; class = i }) (view x) in
    refused refusal given (given_to_classes adds_names has_dates round (map view cs))
    (λ over. ap suffixes_overflow (one_class view adds_names has_dates round cs i x gs low is_x before)
    ∙ still_from adds_names has_dates round (i + 1) (map view (drop (i + 1) cs)) given over) ends
