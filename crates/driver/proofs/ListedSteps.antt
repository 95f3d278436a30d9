-- What a bibliography prints of entries that are listed.
use Rattle.std.proofs.Common.{◌≡◌, ℕ, ◌+◌, ◌<◌, ◌≤◌, Bool, true, false, All, List, [], ◌∷◌, ◌++◌, append_assoc, append-nil, cond, drop, eqb-true, get_or, length, ltb-true, ltb-false, map, nat_lt, refl, sym, ap, subst, ◌∙◌, arith, zero-add, Option, Some, None}
use Rattle.std.specs.Prelude.{filter_map, find, option_to_list, slice_index_or, IfOk, IfSome, Result}
use Rattle.std.specs.List.{cons_option, range_with_len}
use Rattle.std.specs.Option.{option_and_then, option_map}
use Rattle.std.proofs.lemmas.List.{drop_all, drop_more, get_or-map}
use Rattle.std.proofs.Math.ListN.{get_or-eq_default}
use Rattle.std.proofs.lemmas.List.Elements.{All-head, All-tail}
use Rattle.std.proofs.lemmas.List.FromFn.{get_or-map-range_with_len, length-map-range_with_len}
use Rattle.rendering_context.specs.Cites.{undisambiguated}
use Rattle.rendering_context.specs.Views.{state_view}
use Rattle.rendering_context.specs.declared.cite.DisambiguateState.{DisambiguateState as CodeState}
use Rattle.rendering_context.specs.Contexts.{StyleContext}
use Rattle.rendering_entries.specs.Answers.{Answers}
use Rattle.rendering_style.specs.Styles as styles
use Rattle.driver_bibliography.specs.Substitution.{Printed}
use Rattle.driver_disambiguation.specs.States.{state_of}
use Rattle.driver.specs.FinalPrints.{Listed, first_listed, listed_as, listed_view}
use Rattle.driver.specs.Finish.{is_final_of}
use Rattle.driver.specs.Listing.{AreAtIndices, bibliography_from, keys_listed, listed_in_state, trees_listed}
use Rattle.driver.specs.RenderedViews.{rendered_bibliography_view, key_view}
use Rattle.driver.specs.Stages.{Final, cite_of}
use Rattle.driver.specs.declared.final_prints.ListedCite.{ListedCite}
use Rattle.driver.specs.declared.rendered.RenderedBibliography.{RenderedBibliography}

consed : {B : Type 0} (o : Option B) (bs cs : List B) → bs ++ cons_option o cs ≡ (bs ++ option_to_list o) ++ cs
consed None bs cs = ap (λ ds. ds ++ cs) (sym (append-nil bs))
consed (Some b) bs cs = sym (append_assoc bs (b ∷ []) cs)

-- the bibliography of what is printed of entries in a context
pub bibliography_in : {E : Type 0} (r : Result RenderedBibliography E) (s : styles.Bibliography) (ts : List Printed) (x y : StyleContext) (ls : List (Option Listed)) (order : List ℕ)
    → IfOk r (λ b. rendered_bibliography_view b ≡ bibliography_from s ts) → ts ≡ trees_listed x ls order → x ≡ y → IfOk r (λ b. rendered_bibliography_view b ≡ bibliography_from s (trees_listed y ls order))
bibliography_in r s ts x y ls order is at same = subst (λ us. IfOk r (λ b. rendered_bibliography_view b ≡ bibliography_from s us)) (at ∙ ap (λ z. trees_listed z ls order) same) is

-- its keys
pub keys_in_order : {E : Type 0} (r : Result RenderedBibliography E) (ks : List (List ℕ)) (x y : StyleContext) (ls : List (Option Listed)) (order : List ℕ)
    → IfOk r (λ b. map key_view b.items.items ≡ ks) → ks ≡ keys_listed x ls order → x ≡ y → IfOk r (λ b. map key_view b.items.items ≡ keys_listed y ls order)
keys_in_order r ks x y ls order is at same = subst (λ us. IfOk r (λ b. map key_view b.items.items ≡ us)) (at ∙ ap (λ z. keys_listed z ls order) same) is

-- one more is tried
pub tried_goes_on : {A B : Type 0} (f : A → Option B) (es : List A) (old new : List B) (n : ℕ) (e : A) (o : Option B) (all : List B) → n < length es → e ≡ get_or es n e → o ≡ f e
    → old ++ filter_map f (drop n es) ≡ all → new ≡ old ++ option_to_list o → new ++ filter_map f (drop (n + 1) es) ≡ all
tried_goes_on f es old new n e o all less at is h made =
    let rest = filter_map f (drop (n + 1) es) in
    ap (λ bs. bs ++ rest) made
    ∙ sym (consed o old rest)
    ∙ ap (λ p. old ++ cons_option p rest) (is ∙ ap f at)
    ∙ ap (λ xs. old ++ filter_map f xs) (sym (drop_more es n e less))
    ∙ h

-- all were tried
pub tried_ends : {A B : Type 0} (f : A → Option B) (es : List A) (old : List B) (n : ℕ) (all : List B) → length es ≤ n → old ++ filter_map f (drop n es) ≡ all → old ≡ all
tried_ends f es old n all over h = sym (append-nil old) ∙ ap (λ xs. old ++ filter_map f xs) (sym (drop_all n es over)) ∙ h

in_state_alike : {T : Type 0} (answers : T → Answers) (states : List CodeState) (state : CodeState) (index : ℕ) (o : Option (ListedCite T)) → index < length states → state ≡ get_or states index state
    → IfSome (option_map (listed_view answers (map state_view states)) o) (λ l. l.index ≡ index) → option_map (listed_in_state answers (state_view state)) o ≡ option_map (listed_view answers (map state_view states)) o
in_state_alike answers states state index None less at h = refl
in_state_alike answers states state index (Some l) less at h =
    let same : state_view state ≡ state_of (map state_view states) l.cite.entry =
    ap state_view at ∙ sym (get_or-map state_view states index state undisambiguated less) ∙ ap (λ p. get_or (map state_view states) p undisambiguated) (sym h) in
    ap (λ m. Some (listed_in_state answers m l)) same

-- what is made of the entry at an index, by its state
pub made_by_state : {T B : Type 0} (make : Listed → Option B) (answers : T → Answers) (states : List CodeState) (listed : List (Option (ListedCite T))) (index : ℕ) (state : CodeState) (o : Option (ListedCite T)) → index < length states → length listed ≡ length states
    → state ≡ get_or states index state → o ≡ get_or listed index o → AreAtIndices (map (option_map (listed_view answers (map state_view states))) listed)
    → option_and_then make (option_map (listed_in_state answers (state_view state)) o) ≡ option_and_then make (slice_index_or (map (option_map (listed_view answers (map state_view states))) listed) index None)
made_by_state make answers states listed index state o less long at_state at stand =
    let here : get_or (map (option_map (listed_view answers (map state_view states))) listed) index None ≡ option_map (listed_view answers (map state_view states)) o =
    get_or-map (option_map (listed_view answers (map state_view states))) listed index o None (omega (arith, less, long)) ∙ ap (option_map (listed_view answers (map state_view states))) (sym at) in
    let own : IfSome (option_map (listed_view answers (map state_view states)) o) (λ l. l.index ≡ index) = subst (λ (p : Option Listed). IfSome p (λ l. l.index ≡ index)) here (stand index) in
    ap (option_and_then make) (in_state_alike answers states state index o less at_state own ∙ sym here)

own_if : {P : Type 0} (index : ℕ) (f : Final P) (o : Option (Final P)) (b : Bool) → is_final_of index f ≡ b → IfSome (option_map listed_as o) (λ l. l.index ≡ index) → IfSome (option_map listed_as (cond b (Some f) o)) (λ l. l.index ≡ index)
own_if index f o true e h = eqb-true (cite_of f).item.entry.index index e
own_if index f o false e h = h

first_own : {P : Type 0} (fs : List (Final P)) (index : ℕ) → IfSome (first_listed fs index) (λ l. l.index ≡ index)
first_own [] index = tt
first_own (f ∷ fs) index = own_if index f (find (is_final_of index) fs) (is_final_of index f) refl (first_own fs index)

placed_if : {P : Type 0} (fs : List (Final P)) (count index : ℕ) (b : Bool) → nat_lt index count ≡ b → IfSome (get_or (map (first_listed fs) (range_with_len 0 count)) index None) (λ l. l.index ≡ index)
placed_if fs count index true e =
    let less : index < count = ltb-true index count e in
    subst (λ (o : Option Listed). IfSome o (λ l. l.index ≡ index)) (sym (get_or-map-range_with_len (first_listed fs) 0 count index index None less (zero-add index))) (first_own fs index)
placed_if {P} fs count index false e =
    let over : length (map (first_listed fs) (range_with_len 0 count)) ≤ index = omega (arith, length-map-range_with_len (first_listed fs) 0 count, ltb-false index count e) in
    subst (λ (o : Option Listed). IfSome o (λ l. l.index ≡ index)) (sym (get_or-eq_default (map (first_listed fs) (range_with_len 0 count)) None over)) tt

-- the first cites of entries stand at the indices of these
pub firsts_stand : {P : Type 0} (fs : List (Final P)) (count : ℕ) (ls : List (Option Listed)) → ls ≡ map (first_listed fs) (range_with_len 0 count) → AreAtIndices ls
firsts_stand fs count ls e = λ index. subst (λ (ms : List (Option Listed)). IfSome (slice_index_or ms index None) (λ l. l.index ≡ index)) (sym e) (placed_if fs count index (nat_lt index count) refl)

-- what is made of entries by their first cites
pub made_are : {P B : Type 0} (make : Listed → Option B) (fs : List (Final P)) (count : ℕ) (ls : List (Option Listed)) (order : List ℕ) → ls ≡ map (first_listed fs) (range_with_len 0 count) → All (λ p. p < count) order
    → filter_map (λ index. option_and_then make (slice_index_or ls index None)) order ≡ filter_map (λ index. option_and_then make (first_listed fs index)) order
made_are make fs count ls [] e within = refl
made_are make fs count ls (p ∷ ps) e within =
    let here : option_and_then make (slice_index_or ls p None) ≡ option_and_then make (first_listed fs p) = ap (λ (ms : List (Option Listed)). option_and_then make (slice_index_or ms p None)) e ∙ ap (option_and_then make) (get_or-map-range_with_len (first_listed fs) 0 count p p None (All-head (λ q. q < count) p ps within) (zero-add p)) in
    λ k. cons_option (here k) (made_are make fs count ls ps e (All-tail (λ q. q < count) p ps within) k)
