-- Entries and their indices, after one more item or one more request is read.
use Rattle.std.proofs.Common.{◌≡◌, ℕ, ◌+◌, ◌<◌, ◌≤◌, Bool, true, false, cond, ◌||◌, List, [], ◌∷◌, ◌++◌, All, map, length, get_or, take, refl, sym, ap, ap₂, subst₂, ◌∙◌}
use Rattle.std.specs.Prelude.{filter_map, flat_map, option_to_list, Option, Some, None}
use Rattle.std.specs.Borrow.{Bor}
use Rattle.std.specs.Cmp.{IsEquivalence}
use Rattle.std.specs.List.{cons_option, list_any, position_or_len}
use Rattle.std.proofs.lemmas.List.{take_more, take_all, map-append, append-nil, length-map}
use Rattle.std.proofs.lemmas.List.Elements.{All-cons, All-map, All-nil, filter_map-append}
use Rattle.std.proofs.lemmas.List.Concat.{flat_map-append}
use Rattle.std.proofs.lemmas.List.Folds.{list_any-append}
use Rattle.std.proofs.lemmas.List.Sums.{fold_push, fold-append}
use Rattle.std.proofs.lemmas.Map.Views.{All-from_any}
use Rattle.laws.specs.Borrowed.{borrowed}
use Rattle.driver_requests.specs.CitedEntries.{once, index_among}
use Rattle.driver_requests.specs.Indices.{pushed, grown, indices_in}
use Rattle.driver_requests.proofs.Once.{grown_all, once-any}
use Rattle.driver_requests.proofs.IndicesFound.{index_below, index_kept}

pushed_step : {K : Type 0} (eq : K → K → Bool) (es : List K) (e : K) (b : Bool) → eq e e ≡ true → list_any (eq e) es ≡ b → list_any (eq e) (cond b es (es ++ e ∷ [])) ≡ true
pushed_step eq es e true same h = h
pushed_step eq es e false same h = list_any-append (eq e) es (e ∷ []) ∙ ap₂ (λ a b. a || (b || false)) h same

pushed_there : {K : Type 0} {eq : K → K → Bool} (laws : IsEquivalence eq) (es : List K) (e : K) → list_any (eq e) (pushed eq es e) ≡ true
pushed_there {eq = eq} laws es e = pushed_step eq es e (list_any (eq e) es) (laws.refl e) refl

-- one more item: the entries
pub entries_step : {T Item : Type 0} (eq : T → T → Bool) (entry : Item → T) (items : List Item) (i : ℕ) (x : Item) → i < length items → x ≡ get_or items i x
    → (start es new : List T) → new ≡ pushed eq es (entry x) → es ≡ grown eq start (map entry (take i items)) → new ≡ grown eq start (map entry (take (i + 1) items))
entries_step eq entry items i x h is start es new one before =
    one ∙ ap (λ fs. pushed eq fs (entry x)) before
    ∙ sym (fold_push (pushed eq) start (map entry (take i items)) (entry x))
    ∙ ap (grown eq start) (sym (map-append entry (take i items) (x ∷ [])))
    ∙ ap (λ xs. grown eq start (map entry xs)) (sym (take_more items i x h ∙ ap (λ y. take i items ++ y ∷ []) (sym is)))

-- one more item: the indices, whatever else is read
pub run_step : {T Item : Type 0} {eq : T → T → Bool} (laws : IsEquivalence eq) (entry : Item → T) (items : List Item) (i : ℕ) (x : Item) → i < length items → x ≡ get_or items i x
    → (es new : List T) → new ≡ pushed eq es (entry x)
    → (run more_run : List ℕ) (p : ℕ) → more_run ≡ run ++ p ∷ [] → p ≡ position_or_len (eq (entry x)) new
    → ((more : List T) → run ≡ indices_in eq (grown eq es more) (map entry (take i items)))
    → (more : List T) → more_run ≡ indices_in eq (grown eq new more) (map entry (take (i + 1) items))
run_step {T} {eq = eq} laws entry items i x h is es new one run more_run p pushes index before more =
    let there : list_any (eq (entry x)) new ≡ true = ap (list_any (eq (entry x))) one ∙ pushed_there laws es (entry x) in
    pushes
    ∙ ap₂ (λ ps q. ps ++ q ∷ []) (before (entry x ∷ more) ∙ ap (λ fs. indices_in eq (grown eq fs more) (map entry (take i items))) (sym one)) (index ∙ sym (index_kept eq (entry x) more new there))
    ∙ sym (map-append (λ e. position_or_len (eq e) (grown eq new more)) (map entry (take i items)) (entry x ∷ []))
    ∙ ap (indices_in eq (grown eq new more)) (sym (map-append entry (take i items) (x ∷ [])))
    ∙ ap (λ xs. indices_in eq (grown eq new more) (map entry xs)) (sym (take_more items i x h ∙ ap (λ y. take i items ++ y ∷ []) (sym is)))

-- one more request: the entries
pub all_entries_step : {T Request : Type 0} (eq : T → T → Bool) (entries : Request → List T) (requests : List Request) (i : ℕ) (x : Request) → i < length requests → x ≡ get_or requests i x
    → (es new : List T) → new ≡ grown eq es (entries x) → es ≡ grown eq [] (flat_map entries (take i requests)) → new ≡ grown eq [] (flat_map entries (take (i + 1) requests))
all_entries_step eq entries requests i x h is es new one before =
    one ∙ ap (λ fs. grown eq fs (entries x)) before
    ∙ sym (fold-append (pushed eq) [] (flat_map entries (take i requests)) (entries x))
    ∙ ap (λ fs. grown eq [] (flat_map entries (take i requests) ++ fs)) (sym (append-nil (entries x)))
    ∙ ap (grown eq []) (sym (flat_map-append entries (take i requests) (x ∷ [])))
    ∙ ap (λ xs. grown eq [] (flat_map entries xs)) (sym (take_more requests i x h ∙ ap (λ y. take i requests ++ y ∷ []) (sym is)))

-- one more request: the runs of indices, whatever else is read
pub runs_step : {T Request Run : Type 0} (eq : T → T → Bool) (indices : Run → List ℕ) (entries : Request → List T) (requests : List Request) (i : ℕ) (x : Request) → i < length requests
    → x ≡ get_or requests i x
    → (es new : List T) → new ≡ grown eq es (entries x)
    → (runs more_runs : List Run) (run : Run) → more_runs ≡ runs ++ run ∷ [] → ((more : List T) → indices run ≡ indices_in eq (grown eq new more) (entries x))
    → ((more : List T) → map indices runs ≡ map (λ r. indices_in eq (grown eq es more) (entries r)) (take i requests))
    → (more : List T) → map indices more_runs ≡ map (λ r. indices_in eq (grown eq new more) (entries r)) (take (i + 1) requests)
runs_step {T} eq indices entries requests i x h is es new one runs more_runs run pushes here before more =
    ap (map indices) pushes
    ∙ map-append indices runs (run ∷ [])
    ∙ ap₂ (λ ps q. ps ++ q ∷ [])
    (before (entries x ++ more) ∙ ap (λ (fs : List T). map (λ r. indices_in eq fs (entries r)) (take i requests)) (fold-append (pushed eq) es (entries x) more ∙ ap (λ fs. grown eq fs more) (sym one)))
    (here more)
    ∙ sym (map-append (λ r. indices_in eq (grown eq new more) (entries r)) (take i requests) (x ∷ []))
    ∙ ap (map (λ r. indices_in eq (grown eq new more) (entries r))) (sym (take_more requests i x h ∙ ap (λ y. take i requests ++ y ∷ []) (sym is)))

-- all items: the indices, whatever else is read
pub run_end : {T Item : Type 0} (eq : T → T → Bool) (entry : Item → T) (items : List Item) (i : ℕ) → length items ≤ i → (es : List T) (run : List ℕ)
    → ((more : List T) → run ≡ indices_in eq (grown eq es more) (map entry (take i items)))
    → (more : List T) → run ≡ indices_in eq (grown eq es more) (map entry items)
run_end eq entry items i over es run before more = before more ∙ ap (λ is. indices_in eq (grown eq es more) (map entry is)) (take_all i items over)

-- the items of a request as a slice: the entries
pub entries_as : {T Item : Type 0} (eq : T → T → Bool) (entry : Item → T) (slice items : List Item) → slice ≡ items → (es new : List T) → new ≡ grown eq es (map entry slice) → new ≡ grown eq es (map entry items)
entries_as eq entry slice items is es new one = one ∙ ap (λ xs. grown eq es (map entry xs)) is

-- the items of a request as a slice: the indices
pub run_as : {T Item : Type 0} (eq : T → T → Bool) (entry : Item → T) (slice items : List Item) → slice ≡ items → (es : List T) (run : List ℕ)
    → ((more : List T) → run ≡ indices_in eq (grown eq es more) (map entry slice))
    → (more : List T) → run ≡ indices_in eq (grown eq es more) (map entry items)
run_as eq entry slice items is es run here more = here more ∙ ap (λ xs. indices_in eq (grown eq es more) (map entry xs)) is

-- all requests: the entries
pub all_entries : {T Request : Type 0} {eq : T → T → Bool} (laws : IsEquivalence eq) (entries : Request → List T) (requests : List Request) (i : ℕ) → length requests ≤ i → (es : List T)
    → es ≡ grown eq [] (flat_map entries (take i requests)) → es ≡ once eq (flat_map entries requests)
all_entries {eq = eq} laws entries requests i over es before =
    before ∙ ap (λ rs. grown eq [] (flat_map entries rs)) (take_all i requests over) ∙ grown_all laws (flat_map entries requests)

-- all requests: the runs of indices
pub all_runs : {T Request : Type 0} {eq : T → T → Bool} (laws : IsEquivalence eq) (entries : Request → List T) (requests : List Request) (i : ℕ) → length requests ≤ i → (es : List T)
    → es ≡ grown eq [] (flat_map entries (take i requests))
    → (runs : List (List ℕ)) → ((more : List T) → runs ≡ map (λ r. indices_in eq (grown eq es more) (entries r)) (take i requests))
    → runs ≡ map (λ r. map (index_among eq (flat_map entries requests)) (entries r)) requests
all_runs {T} {eq = eq} laws entries requests i over es read runs before =
    before []
    ∙ ap (map (λ r. indices_in eq es (entries r))) (take_all i requests over)
    ∙ ap (λ (fs : List T). map (λ r. indices_in eq fs (entries r)) requests) (all_entries laws entries requests i over es read)

one_to_list : (o : Option ℕ) → option_to_list o ≡ cons_option o []
one_to_list None = refl
one_to_list (Some n) = refl

-- one more entry, which may have an index
pub indices_step : {T : Type 0} (index : T → Option ℕ) (entries : List (Bor T)) (i : ℕ) (x : Bor T) → i < length entries → x ≡ get_or entries i x
    → (indices more : List ℕ) (p : Option ℕ) → more ≡ indices ++ option_to_list p → p ≡ index x.now → indices ≡ filter_map index (borrowed (take i entries)) → more ≡ filter_map index (borrowed (take (i + 1) entries))
indices_step {T} index entries i x h is indices more p pushes one before =
    pushes
    ∙ ap₂ (λ ps qs. ps ++ qs) before (ap option_to_list one ∙ one_to_list (index x.now))
    ∙ sym (filter_map-append index (borrowed (take i entries)) (x.now ∷ []))
    ∙ ap (filter_map index) (sym (map-append (λ (e : Bor T). e.now) (take i entries) (x ∷ [])))
    ∙ ap (λ (es : List (Bor T)). filter_map index (borrowed es)) (sym (take_more entries i x h ∙ ap (λ y. take i entries ++ y ∷ []) (sym is)))

among_first : (a b : Bool) → a ≡ true → (a || b) ≡ true
among_first true b h = refl
among_first false b h = cc

among_rest : (a b : Bool) → b ≡ true → (a || b) ≡ true
among_rest true b h = refl
among_rest false b h = h

-- indices of entries among others are below how many these are
pub runs_within : {T Request : Type 0} {eq : T → T → Bool} (laws : IsEquivalence eq) (entries : Request → List T) (all : List T) (requests : List Request)
    → ((q : T) → list_any (eq q) (flat_map entries requests) ≡ true → list_any (eq q) all ≡ true)
    → All (All (λ p. p < length (once eq all))) (map (λ r. map (index_among eq all) (entries r)) requests)
runs_within {eq = eq} laws entries all [] among = All-nil (All (λ p. p < length (once eq all)))
runs_within {eq = eq} laws entries all (r ∷ rs) among =
    All-cons (All (λ p. p < length (once eq all))) (map (index_among eq all) (entries r)) (map (λ x. map (index_among eq all) (entries x)) rs)
    (All-map (λ p. p < length (once eq all)) (index_among eq all) (entries r)
    (All-from_any laws (λ e. index_among eq all e < length (once eq all)) (entries r)
    (λ q h. index_below (eq q) (once eq all) (once-any laws q all ∙ among q (list_any-append (eq q) (entries r) (flat_map entries rs) ∙ among_first _ _ h)))))
    (runs_within laws entries all rs (λ q h. among q (list_any-append (eq q) (entries r) (flat_map entries rs) ∙ among_rest _ _ h)))

-- the indices of the items of all requests are below the number of entries
pub indices_within : {T Request : Type 0} {eq : T → T → Bool} (laws : IsEquivalence eq) (entries : Request → List T) (requests : List Request) (cited : List (Bor T)) (runs : List (List ℕ))
    → borrowed cited ≡ once eq (flat_map entries requests) → runs ≡ map (λ r. map (index_among eq (flat_map entries requests)) (entries r)) requests
    → All (All (λ p. p < length cited)) runs
indices_within {T} {eq = eq} laws entries requests cited runs are is =
    let many : length cited ≡ length (once eq (flat_map entries requests)) = sym (length-map cited (λ (e : Bor T). e.now)) ∙ ap length are in
    subst₂ (λ n (ps : List (List ℕ)). All (All (λ p. p < n)) ps) (sym many) (sym is) (runs_within laws entries (flat_map entries requests) requests (λ q h. h))
