-- Requests and their cites, one after the other in the final order.
use Rattle.std.proofs.Common.{arith, ◌≡◌, ℕ, suc, ◌+◌, ◌<◌, ◌≤◌, Bool, true, List, [], ◌∷◌, ◌++◌, All, append_assoc, length, map, drop, get_or, set, fold, zip, slice_get, is_some, true≢false, not, option_map, refl, sym, ap, ◌∙◌, Option, Some, None, Vec}
use Rattle.std.specs.Prelude.{IfSome}
use Rattle.std.specs.List.{cons_option}
use Rattle.std.specs.Option.{option_or}
use Rattle.std.proofs.lemmas.List.{drop_all, drop_more, get_or-map, length-map, map-append, map-set}
use Rattle.std.proofs.lemmas.Option.{slice_get-map}
use Rattle.rendering_context.specs.Cites as cites
use Rattle.rendering_entries.specs.Answers.{Answers}
use Rattle.rendering_style.specs.Styles.{Citation}
use Rattle.rendering_taxonomy.specs.declared.cite.IdentifierUsage.TheVariants as usages
use Rattle.rendering_tree.specs.Trees.{Children}
use Rattle.rendering.specs.Purposes as purposes
use Rattle.rendering_context.specs.Contexts.{StyleContext}
use Rattle.rendering.specs.Purposes.{citation}
use Rattle.driver_requests.specs.Cites.{properties_of}
use Rattle.driver_requests.specs.Positions.{ibid_at}
use Rattle.driver_requests.specs.Requests.{Item, Request, plain_locator}
use Rattle.driver_requests.specs.Suffixes.{Suffix}
use Rattle.driver_requests.specs.Views.{context_of, item_view, last_view, request_locator_view, request_view}
use Rattle.driver_requests.specs.declared.item.CitationItem.{CitationItem}
use Rattle.driver_requests.specs.declared.request.CitationRequest.{CitationRequest}
use Rattle.driver_names.specs.Prints as prints
use Rattle.driver_disambiguation.specs.States.{States, state_of}
use Rattle.driver_disambiguation.specs.Rounds.{Disambiguation}
use Rattle.driver_blocks.specs.Blocks.{Gathered}
use Rattle.driver_blocks.specs.Runs as runs
use Rattle.driver_blocks.specs.Views.{arranged_view}
use Rattle.driver_blocks.specs.declared.cite.Arranged as arranged
use Rattle.driver_citations.specs.Citations.{Shown}
use Rattle.driver.specs.FinalPrints.{Listed, Placed, all_gathered, arranged_at, arranged_in, cited_with, final_after, final_view, firsts, gathered_from, last_arranged, last_cite_view, listed_as, listed_view, final_listed_view, listed_with, placed_view, placed_with, finals_after}
use Rattle.driver_citations.specs.Joining.{shown_view}
use Rattle.driver.specs.Finish.{Citation as Printed, citation_in, shown}
use Rattle.driver.specs.Renaming.{arranged_as}
use Rattle.driver_rounds.proofs.RequestsFound.{run_at, run_long}
use Rattle.driver_rounds.specs.FirstPrints.{FirstPrint, first_print, printed_by, purpose_at_first}
use Rattle.driver.specs.Stages.{arranged_for, counts_at_last, printed_at_last}
use Rattle.driver_rounds.specs.Views.{printed_by_states, numbered_view, properties_with, numbered_cites_view, all_numbered_cites_view, usage_of}
use Rattle.driver_rounds.specs.declared.cite.NumberedCite.{NumberedCite}
use Rattle.driver_citations.specs.declared.citation.ShownCite.{ShownCite}
use Rattle.driver.specs.declared.final_prints.FinalCite.{FinalCite}
use Rattle.driver_requests.specs.declared.position.LastCite.{LastCite}
use Rattle.driver.specs.declared.final_prints.ListedCite.{ListedCite}

-- a fold goes on
pub fold_more : {A B : Type 0} (f : B → A → B) (now new all : B) (a : A) (left rest : List A) → left ≡ a ∷ rest → fold f now left ≡ all → new ≡ f now a → fold f new rest ≡ all
fold_more f now new all a left rest steps h e = ap (λ b. fold f b rest) e ∙ ap (fold f now) (sym steps) ∙ h

pub fold_ends : {A B : Type 0} (f : B → A → B) (now all : B) (left : List A) → left ≡ [] → fold f now left ≡ all → now ≡ all
fold_ends f now all left none h = ap (fold f now) (sym none) ∙ h

-- a list of the view goes on
pub view_more : {A B : Type 0} (view : A → B) (now new : List A) (a : A) (b : B) (left rest all : List B) → left ≡ b ∷ rest → map view now ++ left ≡ all → new ≡ now ++ a ∷ [] → view a ≡ b → map view new ++ rest ≡ all
view_more view now new a b left rest all steps h e is =
    ap (λ xs. map view xs ++ rest) e
    ∙ ap (λ ys. ys ++ rest) (map-append view now (a ∷ []))
    ∙ append_assoc (map view now) (view a ∷ []) rest
    ∙ ap (λ y. map view now ++ y ∷ rest) is
    ∙ ap (λ ys. map view now ++ ys) (sym steps)
    ∙ h

-- one more cite that is arranged
pub arranged_step : {A Y : Type 0} (ys : List Y) (view_of : A → runs.Arranged ℕ) (xs : List A) (n : ℕ) (a : A) (y : Y) → n < length xs → a ≡ get_or xs n a → slice_get ys (view_of a).cite.cite ≡ Some y
    → arranged_in ys (map view_of (drop n xs)) ≡ arranged_as (λ m. y) (view_of a) ∷ arranged_in ys (map view_of (drop (n + 1) xs))
arranged_step ys view_of xs n a y less is at =
    let rest = arranged_in ys (map view_of (drop (n + 1) xs)) in
    ap (λ zs. arranged_in ys (map view_of zs)) (drop_more xs n a less)
    ∙ ap (λ b. cons_option (arranged_at ys (view_of b)) rest) (sym is)
    ∙ ap (λ o. cons_option (option_map (λ z. arranged_as (λ m. z) (view_of a)) o) rest) at

-- one more cite that is gathered
pub gathered_step : {T P A : Type 0} (year_suffixes : List (Option Suffix)) (view_of : A → prints.Printed) (is : List (CitationItem T P)) (ks : List NumberedCite) (ss : List A) (n : ℕ) (i : CitationItem T P) (k : NumberedCite) (s : A)
    → n < length is → n < length ks → n < length ss → i ≡ get_or is n i → k ≡ get_or ks n k → s ≡ get_or ss n s
    → all_gathered year_suffixes n (drop n is) (drop n ks) (map view_of (drop n ss))
    ≡ gathered_from n k.number i.hidden (is_some i.locator) (view_of s).tree (get_or year_suffixes k.entry None) ∷ all_gathered year_suffixes (n + 1) (drop (n + 1) is) (drop (n + 1) ks) (map view_of (drop (n + 1) ss))
gathered_step year_suffixes view_of is ks ss n i k s a b c x y z =
    let rest = all_gathered year_suffixes (n + 1) (drop (n + 1) is) (drop (n + 1) ks) (map view_of (drop (n + 1) ss)) in
    (λ j. all_gathered year_suffixes n (drop_more is n i a j) (drop_more ks n k b j) (map view_of (drop_more ss n s c j)))
    ∙ (λ j. gathered_from n (sym y j).number (sym x j).hidden (is_some (sym x j).locator) (view_of (sym z j)).tree (get_or year_suffixes (sym y j).entry None) ∷ rest)

module _ {T P : Type 0} (answers : T → Answers) where
  -- there is a print for each item
  pub prints_long : {A : Type 0} (view_of : A → prints.Printed) → (x : StyleContext) (ms : States) (is : List (CitationItem T P)) (ks : List NumberedCite) (ss : List A) → length ks ≡ length is → map view_of ss ≡ map (printed_by_states ms) (numbered_cites_view answers x is ks) → length ss ≡ length is
  prints_long view_of x ms is ks ss long e = sym (length-map ss view_of) ∙ ap length e ∙ length-map (numbered_cites_view answers x is ks) (printed_by_states ms) ∙ run_long answers x is ks long

  pub print_at : (x : StyleContext) (is : List (CitationItem T P)) (ks : List NumberedCite) (n : ℕ) (i : CitationItem T P) (k : NumberedCite) → n < length is → n < length ks → i ≡ get_or is n i → k ≡ get_or ks n k
      → slice_get (map first_print (numbered_cites_view answers x is ks)) n ≡ Some (first_print (numbered_view answers x i k))
  print_at x is ks n i k a b e f = slice_get-map first_print (numbered_cites_view answers x is ks) n ∙ ap (option_map first_print) (run_at answers x is ks n i k a b e f)

  -- requests with their first prints
  abbrev pub with_prints : {A : Type 0} → List (CitationRequest T P) → List (Vec NumberedCite A) → List (Request P × List (FirstPrint P))
  with_prints requests vs = zip (map (request_view (λ e. 0) answers) requests) (firsts (all_numbered_cites_view answers requests vs))

  pub prints_step : {A : Type 0} (requests : List (CitationRequest T P)) (vs : List (Vec NumberedCite A)) (n : ℕ) (r : CitationRequest T P) (v : Vec NumberedCite A) (ks : List NumberedCite) → n < length requests → n < length vs → r ≡ get_or requests n r → v ≡ get_or vs n v → ks ≡ v.items
      → with_prints (drop n requests) (drop n vs) ≡ (request_view (λ e. 0) answers r, map first_print (numbered_cites_view answers (context_of r) r.items.items ks)) ∷ with_prints (drop (n + 1) requests) (drop (n + 1) vs)
  prints_step requests vs n r v ks less below is also e =
      let rest = with_prints (drop (n + 1) requests) (drop (n + 1) vs) in
      (λ j. with_prints (drop_more requests n r less j) (drop_more vs n v below j))
      ∙ (λ j. (request_view (λ e. 0) answers (sym is j), map first_print (numbered_cites_view answers (context_of (sym is j)) (sym is j).items.items (sym also j).items)) ∷ rest)
      ∙ ap (λ ls. (request_view (λ e. 0) answers r, map first_print (numbered_cites_view answers (context_of r) r.items.items ls)) ∷ rest) (sym e)

  pub prints_end : {A : Type 0} (requests : List (CitationRequest T P)) (vs : List (Vec NumberedCite A)) (n : ℕ) → length requests ≤ n → with_prints (drop n requests) (drop n vs) ≡ []
  prints_end requests vs n past = ap (λ rs. with_prints rs (drop n vs)) (drop_all n requests past)

  -- at last each cite counts
  pub all_count : (last : Option (LastCite T P)) → IfSome last (λ l. true ≡ counts_at_last (last_view answers l).1)
  all_count None = tt
  all_count (Some l) = refl

  module _ (x : StyleContext) (c : Citation) (states : States) (same : P → P → Bool) where
    -- one more cite is put after the last
    pub placed_one : (f : FinalCite T P) (a : arranged.Arranged) (ss new : List Shown) (ls now : List (Option Listed)) (last : Option (ℕ × Item P)) → f.ibid ≡ ibid_at same counts_at_last x.style.citation.ibid_after_one f.cite.index last (item_view (λ e. f.cite.entry) answers f.item.now)
        → f.usage ≡ usage_of (numbered_view answers x f.item.now f.cite) → now ≡ listed_with ls (final_listed_view answers states f) → new ≡ ss ++ shown (final_view answers x c states f a)
        → record { shown = new; listed = now; last = Some (f.cite.index, item_view (λ e. f.cite.entry) answers f.item.now) }
        ≡ placed_with same states (record { shown = ss; listed = ls; last = last }) (arranged_as (λ n. first_print (numbered_view answers x f.item.now f.cite)) (arranged_view c a))
    placed_one f a ss new ls now last is_ibid is_usage is_listed is_shown =
        let own = arranged_as (λ n. first_print (numbered_view answers x f.item.now f.cite)) (arranged_view c a) in
        let final : final_view answers x c states f a ≡ final_after same states last own =
        λ j. record { arranged = own; properties = record (properties_of (numbered_view answers x f.item.now f.cite) (state_of states f.cite.entry)) { ibid = is_ibid j } } in
        let listed : final_listed_view answers states f ≡ listed_as (final_after same states last own) =
        λ j. record { index = f.cite.entry; answers = answers f.item.now.entry.now; properties = properties_with f.cite (state_of states f.cite.entry) None (is_ibid j) (is_usage j) } in
        λ j. record { shown = (is_shown ∙ ap (λ g. ss ++ shown g) final) j; listed = (is_listed ∙ ap (listed_with ls) listed) j; last = Some (f.cite.index, item_view (λ e. f.cite.entry) answers f.item.now) }

    -- one more cite of those that are arranged
    pub placed_goes_on : (f : FinalCite T P) (a : arranged.Arranged) (prints : List (FirstPrint P)) (xs : List arranged.Arranged) (n : ℕ) (ss new : List ShownCite) (ls now : List (Option (ListedCite T))) (last : Option (LastCite T P)) (own : LastCite T P) (all : Placed P) → n < length xs → a ≡ get_or xs n a
        → slice_get prints a.cite.cite ≡ Some (first_print (numbered_view answers x f.item.now f.cite)) → fold (placed_with same states) (placed_view answers states ss ls last) (arranged_in prints (map (arranged_view c) (drop n xs))) ≡ all
        → f.ibid ≡ ibid_at same counts_at_last x.style.citation.ibid_after_one f.cite.index (last_cite_view answers last) (item_view (λ e. f.cite.entry) answers f.item.now) → f.usage ≡ usage_of (numbered_view answers x f.item.now f.cite)
        → map (option_map (listed_view answers states)) now ≡ listed_with (map (option_map (listed_view answers states)) ls) (final_listed_view answers states f) → map shown_view new ≡ map shown_view ss ++ shown (final_view answers x c states f a)
        → last_view answers own ≡ (f.cite.index, item_view (λ e. f.cite.entry) answers f.item.now)
        → fold (placed_with same states) (placed_view answers states new now (Some own)) (arranged_in prints (map (arranged_view c) (drop (n + 1) xs))) ≡ all
    placed_goes_on f a prints xs n ss new ls now last own all less is at h is_ibid is_usage is_listed is_shown is_own =
        let b = first_print (numbered_view answers x f.item.now f.cite) in
        let new_shown = map shown_view new in
        let new_listed = map (option_map (listed_view answers states)) now in
        fold_more (placed_with same states) (placed_view answers states ss ls last) (placed_view answers states new now (Some own)) all (arranged_as (λ m. b) (arranged_view c a)) (arranged_in prints (map (arranged_view c) (drop n xs)))
        (arranged_in prints (map (arranged_view c) (drop (n + 1) xs))) (arranged_step prints (arranged_view c) xs n a b less is at) h
        ((λ j. record { shown = new_shown; listed = new_listed; last = Some (is_own j) })
        ∙ placed_one f a (map shown_view ss) new_shown (map (option_map (listed_view answers states)) ls) new_listed (last_cite_view answers last) is_ibid is_usage is_listed is_shown)

-- one more request
pub cited_one : {P : Type 0} (same : P → P → Bool) (t : Disambiguation) (r : Request P) (bs : List (FirstPrint P)) (cs new : List Printed) (c : Printed) (ls now : List (Option Listed)) (last after : Option (ℕ × Item P)) → new ≡ cs ++ c ∷ []
    → c ≡ citation_in (r, finals_after same t.states last (arranged_for t (r, bs))) → now ≡ fold listed_with ls (map listed_as (finals_after same t.states last (arranged_for t (r, bs)))) → after ≡ last_arranged last (arranged_for t (r, bs))
    → record { citations = new; listed = now; last = after } ≡ cited_with same t (record { citations = cs; listed = ls; last = last }) (r, bs)
cited_one same t r bs cs new c ls now last after e is is_listed is_last = λ j. record { citations = (e ∙ ap (λ d. cs ++ d ∷ []) is) j; listed = is_listed j; last = is_last j }

-- an element is viewed as one of the view
pub view_at : {A B : Type 0} (f : A → B) (xs : List A) (n : ℕ) (x : A) (d : B) → n < length xs → x ≡ get_or xs n x → f x ≡ get_or (map f xs) n d
view_at f xs n x d less is = ap f is ∙ sym (get_or-map f xs n x d less)

-- what a cite prints
pub printed_is : {T P : Type 0} (answers : T → Answers) (x : StyleContext) (c : Citation) (states : States) (f : FinalCite T P) (a : arranged.Arranged) (state : cites.DisambiguateState) (locator : Option cites.SpecificLocator) (properties : cites.CiteProperties) (r : purposes.Rendered)
    → state ≡ state_of states f.cite.entry → locator ≡ option_map plain_locator (option_map request_locator_view f.item.now.locator) → properties ≡ properties_with f.cite state locator f.ibid usages.None
    → r ≡ citation x (answers f.item.now.entry.now) properties None f.item.now.purpose a.verdict → r.tree ≡ printed_at_last (final_view answers x c states f a)
printed_is answers x c states f a state locator properties r is_state is_locator is e =
    ap (λ s. s.tree) e
    ∙ ap (λ p. (citation x (answers f.item.now.entry.now) p None f.item.now.purpose a.verdict).tree) (is ∙ (λ j. properties_with f.cite (is_state j) (is_locator j) f.ibid usages.None))

-- what a cite prints of which nothing is asked but what it has printed
pub printed_before : {T P : Type 0} (answers : T → Answers) (x : StyleContext) (c : Citation) (states : States) (f : FinalCite T P) (a : arranged.Arranged) (t : Children) → f.item.now.locator ≡ None → f.ibid ≡ f.cite.ibid → purpose_at_first f.item.now.purpose ≡ f.item.now.purpose → a.verdict ≡ None
    → t ≡ (printed_by (numbered_view answers x f.item.now f.cite) (state_of states f.cite.entry)).tree → t ≡ printed_at_last (final_view answers x c states f a)
printed_before answers x c states f a t no_locator is_ibid is_purpose no_verdict e =
    let state = state_of states f.cite.entry in
    e
    ∙ (λ j. (citation x (answers f.item.now.entry.now) (properties_with f.cite state (option_map plain_locator (option_map request_locator_view (sym no_locator j))) (sym is_ibid j) usages.None) None (is_purpose j) (sym no_verdict j)).tree)

-- an entry is listed that was not
pub listed_first : {A : Type 0} (view : A → Listed) (xs : List (Option A)) (x : Option A) (one : A) (l : Listed) (b : Bool) → l.index < length xs → x ≡ get_or xs l.index x → is_some (get_or xs l.index x) ≡ not b → b ≡ true → view one ≡ l
    → map (option_map view) (set xs l.index (Some one)) ≡ listed_with (map (option_map view) xs) l
listed_first view xs (Some y) one l b less is h on e = absurd (true≢false (ap is_some is ∙ h ∙ ap not on))
listed_first view xs None one l b less is h on e =
    let none : get_or (map (option_map view) xs) l.index None ≡ None = sym (view_at (option_map view) xs l.index None None less is) in
    map-set (option_map view) xs l.index (Some one)
    ∙ (λ k. set (map (option_map view) xs) l.index (option_or (sym none k) (Some (e k))))

-- one more cite is gathered
pub gathered_goes_on : {T P A G : Type 0} (view : G → Gathered ℕ) (year_suffixes : List (Option Suffix)) (view_of : A → prints.Printed) (is : List (CitationItem T P)) (ks : List NumberedCite) (ss : List A) (n : ℕ) (i : CitationItem T P) (k : NumberedCite) (s : A) (now new : List G) (g : G)
    (all : List (Gathered ℕ)) (tree : Children) (suffix : Option Suffix) → n < length is → n < length ks → n < length ss → i ≡ get_or is n i → k ≡ get_or ks n k → s ≡ get_or ss n s
    → map view now ++ all_gathered year_suffixes n (drop n is) (drop n ks) (map view_of (drop n ss)) ≡ all → new ≡ now ++ g ∷ []
    → view g ≡ gathered_from n k.number i.hidden (is_some i.locator) tree suffix → tree ≡ (view_of s).tree → suffix ≡ get_or year_suffixes k.entry None
    → map view new ++ all_gathered year_suffixes (n + 1) (drop (n + 1) is) (drop (n + 1) ks) (map view_of (drop (n + 1) ss)) ≡ all
gathered_goes_on view year_suffixes view_of is ks ss n i k s now new g all tree suffix a b c x y z h e is_view is_tree is_suffix =
    view_more view now new g (gathered_from n k.number i.hidden (is_some i.locator) (view_of s).tree (get_or year_suffixes k.entry None)) (all_gathered year_suffixes n (drop n is) (drop n ks) (map view_of (drop n ss)))
    (all_gathered year_suffixes (n + 1) (drop (n + 1) is) (drop (n + 1) ks) (map view_of (drop (n + 1) ss))) all (gathered_step year_suffixes view_of is ks ss n i k s a b c x y z) h e
    (is_view ∙ (λ j. gathered_from n k.number i.hidden (is_some i.locator) (is_tree j) (is_suffix j)))

pub all_gathered_long : {T P : Type 0} (year_suffixes : List (Option Suffix)) (n : ℕ) (is : List (CitationItem T P)) (ks : List NumberedCite) (ss : List prints.Printed) → length ks ≡ length is → length ss ≡ length is → length (all_gathered year_suffixes n is ks ss) ≡ length is
all_gathered_long year_suffixes n [] ks ss e f = refl
all_gathered_long year_suffixes n (i ∷ is) [] ss e f = e
all_gathered_long year_suffixes n (i ∷ is) (k ∷ ks) [] e f = f
all_gathered_long year_suffixes n (i ∷ is) (k ∷ ks) (s ∷ ss) e f =
    let a : length ks ≡ length is = omega (arith, e) in
    let b : length ss ≡ length is = omega (arith, f) in
    ap suc (all_gathered_long year_suffixes (n + 1) is ks ss a b)

-- cites whose indices are low, by the view of them
pub arranged_low : (c : Citation) (xs : List arranged.Arranged) (zs : List (runs.Arranged ℕ)) (n m : ℕ) → map (arranged_view c) xs ≡ zs → All (λ (a : runs.Arranged ℕ). a.cite.cite < n) zs → n ≡ m → All (λ (a : arranged.Arranged). a.cite.cite < m) xs
arranged_low c xs zs n m e h same k d less =
    let f = arranged_view c in
    let long : length zs ≡ length xs = ap length (sym e) ∙ length-map xs f in
    let at : (get_or zs k (f d)).cite.cite ≡ (get_or xs k d).cite.cite = ap (λ ys. (get_or ys k (f d)).cite.cite) (sym e) ∙ ap (λ (a : runs.Arranged ℕ). a.cite.cite) (get_or-map f xs k d (f d) less) in
    let low : (get_or zs k (f d)).cite.cite < n = h k (f d) (omega (arith, less, long)) in
    omega (arith, at, low, same)
