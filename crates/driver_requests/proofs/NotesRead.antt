-- What is known of cites, after one more request is read.
use Rattle.std.proofs.Common.{◌≡◌, ℕ, zero, suc, ◌+◌, ◌<◌, ◌≤◌, List, [], ◌∷◌, ◌++◌, All, map, drop, length, get_or, replicate, refl, sym, ap, ap₂, subst, subst₂, ◌∙◌, append_assoc, append-nil, arith, Vec}
use Rattle.std.proofs.Math.Path.{fun_ext}
use Rattle.std.specs.Prelude.{zip}
use Rattle.std.proofs.lemmas.List.{at_drop_more, at_drop_all, get_or-map, map-append, length-map}
use Rattle.std.proofs.lemmas.List.Elements.{All-get_or}
use Rattle.std.proofs.lemmas.Slice.Zip.{get_or-zip, length-zip}
use Rattle.driver_requests.specs.Notes.{note_view, notes_view}
use Rattle.driver_requests.specs.Indices.{runs}
use Rattle.driver_requests.specs.History.{Note, Facts, facts_in, facts_after, facts_of_all, after_request, uncited}
use Rattle.driver_requests.specs.HistoryViews.{history_at}
use Rattle.driver_requests.specs.declared.request.CitationRequest.{CitationRequest}
use Rattle.driver_requests.specs.declared.history.History.{History}

-- one more run of what is known
pub facts_more : {Run : Type 0} (view : Run → List Facts) (notes : List Note) (i : ℕ) (n : Note) → i < length notes → n ≡ get_or notes i n
    → (old new : ℕ → History) → ((q : ℕ) → new q ≡ after_request i n q (old q))
    → (known more : List Run) (run : Run) → more ≡ known ++ run ∷ [] → view run ≡ facts_in i n old
    → (all : List (List Facts)) → map view known ++ facts_after i old (drop i notes) ≡ all
    → map view more ++ facts_after (i + 1) new (drop (i + 1) notes) ≡ all
facts_more view notes i n here at old new stands known more run pushed is all before =
    ap₂ (λ fs (s : ℕ → History). fs ++ facts_after (i + 1) s (drop (i + 1) notes)) (ap (map view) pushed ∙ map-append view known (run ∷ []) ∙ ap (λ f. map view known ++ f ∷ []) is) (fun_ext stands)
    ∙ append_assoc (map view known) (facts_in i n old ∷ []) (facts_after (i + 1) (λ q. after_request i n q (old q)) (drop (i + 1) notes))
    ∙ ap (λ fs. map view known ++ fs) (sym (at_drop_more (facts_after i old) notes i n here ∙ ap (λ m. facts_after i old (m ∷ drop (i + 1) notes)) (sym at)))
    ∙ before

-- all runs of what is known
pub facts_end : {Run : Type 0} (view : Run → List Facts) (notes : List Note) (i : ℕ) (histories : ℕ → History) → length notes ≤ i
    → (known : List Run) (all : List (List Facts)) → map view known ++ facts_after i histories (drop i notes) ≡ all → map view known ≡ all
facts_end view notes i histories over known all before =
    sym (append-nil (map view known)) ∙ ap (λ fs. map view known ++ fs) (sym (at_drop_all (facts_after i histories) notes i over)) ∙ before

-- requests and runs of indices are as many
pub note_count : {T P A : Type 0} (rs : List (CitationRequest T P)) (vs : List (Vec ℕ A)) → length vs ≡ length rs → length (notes_view rs (runs vs)) ≡ length rs
note_count {T} {P} {A} rs vs same =
    let many : length (runs vs) ≡ length rs = length-map vs (λ (w : Vec ℕ A). w.items) ∙ same in
    length-map (zip rs (runs vs)) (λ (p : CitationRequest T P × List ℕ). note_view p.0 p.1) ∙ length-zip rs (runs vs) ∙ omega (arith, many)

-- the note of a request with its run of indices
pub note_at : {T P A : Type 0} (rs : List (CitationRequest T P)) (vs : List (Vec ℕ A)) (i : ℕ) (r : CitationRequest T P) (v : Vec ℕ A) (ps : List ℕ) → length vs ≡ length rs → i < length rs
    → r ≡ get_or rs i r → v ≡ get_or vs i v → ps ≡ v.items
    → note_view r ps ≡ get_or (notes_view rs (runs vs)) i (note_view r ps)
note_at {T} {P} {A} rs vs i r v ps same here at_r at_v is =
    let there : i < length vs = subst (λ n. i < n) (sym same) here in
    let long : i < length (runs vs) = subst (λ n. i < n) (sym (length-map vs (λ (w : Vec ℕ A). w.items))) there in
    let run : ps ≡ get_or (runs vs) i ps = is ∙ ap (λ (w : Vec ℕ A). w.items) at_v ∙ sym (get_or-map (λ (w : Vec ℕ A). w.items) vs i v ps there) in
    let short : i < length (zip rs (runs vs)) = subst (λ n. i < n) (sym (length-zip rs (runs vs))) (omega (arith, here, long)) in
    ap₂ (λ (x : CitationRequest T P) (qs : List ℕ). note_view x qs) at_r run
    ∙ sym (get_or-map (λ (p : CitationRequest T P × List ℕ). note_view p.0 p.1) (zip rs (runs vs)) i (r, ps) (note_view r ps) short ∙ ap (λ (p : CitationRequest T P × List ℕ). note_view p.0 p.1) (get_or-zip rs (runs vs) i (r, ps) here long))

-- the indices one after the other are below what all are
pub run_within : {A : Type 0} (vs : List (Vec ℕ A)) (count n i : ℕ) (v : Vec ℕ A) (ps : List ℕ) → i < length vs → v ≡ get_or vs i v → ps ≡ v.items → n ≡ count
    → All (All (λ p. p < count)) (runs vs) → All (λ p. p < n) ps
run_within {A} vs count n i v ps here at is same within =
    let long : i < length (runs vs) = subst (λ m. i < m) (sym (length-map vs (λ (w : Vec ℕ A). w.items))) here in
    let run : get_or (runs vs) i [] ≡ ps = get_or-map (λ (w : Vec ℕ A). w.items) vs i v [] here ∙ sym (ap (λ (w : Vec ℕ A). w.items) at) ∙ sym is in
    subst₂ (λ (m : ℕ) (qs : List ℕ). All (λ p. p < m) qs) (sym same) run (All-get_or (All (λ p. p < count)) (runs vs) i [] long within)

everywhere : {X : Type 0} (n q : ℕ) (a : X) → get_or (replicate n a) q a ≡ a
everywhere zero q a = refl
everywhere (suc n) zero a = refl
everywhere (suc n) (suc q) a = everywhere n q a

-- before all requests
pub none_cited : (count : ℕ) (histories : List History) (notes : List Note) → histories ≡ replicate count uncited
    → facts_after 0 (history_at histories) notes ≡ facts_of_all notes
none_cited count histories notes is = ap (λ s. facts_after 0 s notes) (fun_ext (λ q. ap (λ xs. history_at xs q) is ∙ everywhere count q uncited))
