-- Cites with their numbers, one after the other.
use Rattle.std.proofs.Common.{◌≡◌, ℕ, zero, suc, ◌+◌, ◌<◌, ◌≤◌, Bool, All, List, [], ◌∷◌, ◌++◌, append_assoc, append-nil, length, drop, get_or, refl, sym, ap, subst, ◌∙◌, arith, not, Option, Some, None, Vec}
use Rattle.std.specs.Prelude.{IfSome}
use Rattle.std.specs.Option.{option_map}
use Rattle.std.proofs.lemmas.List.{drop_all, drop_more, get_or-map, length-map}
use Rattle.std.proofs.lemmas.List.Elements.{All-get_or}
use Rattle.rendering_entries.specs.Answers.{Answers}
use Rattle.rendering_context.specs.Contexts.{StyleContext}
use Rattle.rendering_context.specs.Views.{lent_names}
use Rattle.rendering_taxonomy.specs.declared.cite.IbidState.{IbidState}
use Rattle.driver_requests.specs.Cites.{Numbered}
use Rattle.driver_requests.specs.Indices.{runs}
use Rattle.driver_requests.specs.Positions.{counts_at_first, ibid_at}
use Rattle.driver_requests.specs.Requests.{Item}
use Rattle.driver_requests.specs.Views.{context_of, item_view, last_view}
use Rattle.driver_requests.specs.declared.item.CitationItem.{CitationItem}
use Rattle.driver_requests.specs.declared.position.LastCite.{LastCite}
use Rattle.driver_requests.specs.declared.request.CitationRequest.{CitationRequest}
use Rattle.driver_requests.specs.declared.history.CiteFacts.{CiteFacts}
use Rattle.driver_rounds.specs.Numbering.{all_cites_view, cite_view, cites_view, last_after, last_item, last_item_among, numbered_from, numbering, numbering_all}
use Rattle.driver_rounds.specs.Views.{numbered_view, numbered_cites_view, all_numbered_cites_view}
use Rattle.driver_rounds.specs.declared.cite.NumberedCite.{NumberedCite}

counted_so : {T P : Type 0} (answers : T → Answers) (last : Option (LastCite T P)) (counts : Bool) → IfSome last (λ l. counts ≡ not l.item.now.hidden) → IfSome last (λ l. counts ≡ counts_at_first (last_view answers l).1)
counted_so answers None counts h = tt
counted_so answers (Some l) counts h = h

-- an item after the cite before it, by a style
pub stands : {T P : Type 0} (answers : T → Answers) (same : P → P → Bool) (x : StyleContext) (last : Option (LastCite T P)) (i : CitationItem T P) (counts after_one : Bool) (n entry : ℕ) (result : IbidState)
    → after_one ≡ x.style.citation.ibid_after_one → IfSome last (λ l. counts ≡ not l.item.now.hidden)
    → ((known : T → Answers) (counting : Item P → Bool) → IfSome last (λ l. counts ≡ counting (last_view known l).1)
    → result ≡ ibid_at same counting after_one n (option_map (last_view known) last) (item_view (λ e. entry) known i))
    → result ≡ ibid_at same counts_at_first x.style.citation.ibid_after_one n (last_item answers last) (item_view (λ e. entry) answers i)
stands answers same x last i counts after_one n entry result styled counted h =
    h answers counts_at_first (counted_so answers last counts counted) ∙ ap (λ b. ibid_at same counts_at_first b n (last_item answers last) (item_view (λ e. entry) answers i)) styled

-- a request without items leaves the cite before it
pub none_last : {T P : Type 0} (answers : T → Answers) (last : Option (ℕ × Item P)) (items : List (CitationItem T P)) (indices : List ℕ) → length items ≡ 0 → last ≡ last_item_among answers last 0 items indices
none_last answers last [] indices none = refl
none_last answers last (i ∷ is) indices none = absurd (omega arith)

last_from : {T P : Type 0} (answers : T → Answers) (last : Option (ℕ × Item P)) (a k : ℕ) (items : List (CitationItem T P)) (indices : List ℕ) (i : CitationItem T P) (n : ℕ) → k ≡ a + n → length indices ≡ length items
    → length items ≡ n + 1 → i ≡ get_or items n i → Some (k, item_view (λ e. get_or indices n 0) answers i) ≡ last_item_among answers last a items indices
last_from answers last a k [] indices i n at long many is = absurd (omega arith)
last_from answers last a k (j ∷ js) [] i n at long many is = absurd (omega arith)
last_from {T} {P} answers last a k (j ∷ []) (q ∷ qs) i zero at long many is =
    let here : k ≡ a = omega (arith, at) in λ h. Some (here h, item_view (λ e. q) answers (is h))
last_from answers last a k (j ∷ []) (q ∷ qs) i (suc n) at long many is = absurd (omega arith)
last_from answers last a k (j ∷ j2 ∷ js) (q ∷ qs) i zero at long many is = absurd (omega arith)
last_from answers last a k (j ∷ j2 ∷ js) (q ∷ qs) i (suc n) at long many is =
    last_from answers (Some (a, item_view (λ e. q) answers j)) (a + 1) k (j2 ∷ js) qs i n (omega (arith, at)) (omega arith) (omega arith) is

-- the last of some items
pub last_there : {T P : Type 0} (answers : T → Answers) (last : Option (ℕ × Item P)) (items : List (CitationItem T P)) (indices : List ℕ) (i : CitationItem T P) (n : ℕ) → length indices ≡ length items → length items ≡ n + 1
    → i ≡ get_or items n i → Some (n, item_view (λ e. get_or indices n 0) answers i) ≡ last_item_among answers last 0 items indices
last_there answers last items indices i n long many is = last_from answers last 0 n items indices i n (omega arith) long many is

none_view : {T P : Type 0} (answers : T → Answers) (x : StyleContext) (items : List (CitationItem T P)) → numbered_cites_view answers x items [] ≡ []
none_view answers x [] = refl
none_view answers x (i ∷ is) = refl

-- a cite after those before it
run_more : {T P : Type 0} (answers : T → Answers) (x : StyleContext) (items : List (CitationItem T P)) (run : List NumberedCite) (k : NumberedCite) (i : CitationItem T P) → length run < length items → i ≡ get_or items (length run) i
    → numbered_cites_view answers x items (run ++ k ∷ []) ≡ numbered_cites_view answers x items run ++ numbered_view answers x i k ∷ []
run_more answers x [] run k i less at = absurd (omega arith)
run_more answers x (j ∷ js) [] k i less at = ap (λ ns. numbered_view answers x j k ∷ ns) (none_view answers x js) ∙ ap (λ m. numbered_view answers x m k ∷ []) (sym at)
run_more answers x (j ∷ js) (m ∷ ms) k i less at = ap (λ ns. numbered_view answers x j m ∷ ns) (run_more answers x js ms k i (omega arith) at)

module _ {T P : Type 0} (answers : T → Answers) (x : StyleContext) (note : Option ℕ) (same : P → P → Bool) (number : ℕ → ℕ) (items : List (CitationItem T P)) (indices : List ℕ) (facts : List CiteFacts) where
  -- the cites that are numbered, and those that are left
  abbrev pub run_from : List NumberedCite → ℕ → Option (ℕ × Item P) → List (Numbered P)
  run_from run n last = numbered_cites_view answers x items run ++ numbering same number last (cites_view answers x note n (drop n items) (drop n indices) (drop n facts))

  cites_step : (n : ℕ) (i : CitationItem T P) (p : ℕ) (f : CiteFacts) → n < length items → n < length indices → n < length facts → i ≡ get_or items n i → p ≡ get_or indices n p → f ≡ get_or facts n f
      → cites_view answers x note n (drop n items) (drop n indices) (drop n facts) ≡ cite_view answers x note n i p f ∷ cites_view answers x note (n + 1) (drop (n + 1) items) (drop (n + 1) indices) (drop (n + 1) facts)
  cites_step n i p f a b c is ps fs =
      (λ k. cites_view answers x note n (drop_more items n i a k) (drop_more indices n p b k) (drop_more facts n f c k))
      ∙ (λ k. cite_view answers x note n (sym is k) (sym ps k) (sym fs k) ∷ cites_view answers x note (n + 1) (drop (n + 1) items) (drop (n + 1) indices) (drop (n + 1) facts))

  pub run_goes_on : (run new : List NumberedCite) (n : ℕ) (i : CitationItem T P) (p : ℕ) (f : CiteFacts) (k : NumberedCite) (last : Option (ℕ × Item P)) (all : List (Numbered P)) → length run ≡ n
      → n < length items → n < length indices → n < length facts → i ≡ get_or items n i → p ≡ get_or indices n p → f ≡ get_or facts n f
      → numbered_view answers x i k ≡ numbered_from same number last (cite_view answers x note n i p f) → new ≡ run ++ k ∷ []
      → run_from run n last ≡ all → run_from new (n + 1) (Some (n, item_view (λ e. p) answers i)) ≡ all
  run_goes_on run new n i p f k last all long a b c is ps fs says made h =
      let rest = numbering same number (Some (n, item_view (λ e. p) answers i)) (cites_view answers x note (n + 1) (drop (n + 1) items) (drop (n + 1) indices) (drop (n + 1) facts)) in
      let less : length run < length items = omega arith in
      ap (λ ns. numbered_cites_view answers x items ns ++ rest) made
      ∙ ap (λ ns. ns ++ rest) (run_more answers x items run k i less (is ∙ ap (λ m. get_or items m i) (sym long)))
      ∙ append_assoc (numbered_cites_view answers x items run) (numbered_view answers x i k ∷ []) rest
      ∙ ap (λ m. numbered_cites_view answers x items run ++ m ∷ rest) says
      ∙ ap (λ cs. numbered_cites_view answers x items run ++ numbering same number last cs) (sym (cites_step n i p f a b c is ps fs))
      ∙ h

  -- the same of a cite as the code makes it
  pub run_puts : (run new : List NumberedCite) (n : ℕ) (i : CitationItem T P) (k : NumberedCite) (last : Option (ℕ × Item P)) (all : List (Numbered P)) → length run ≡ n
      → n < length items → n < length indices → n < length facts → i ≡ get_or items n i → k.entry ≡ get_or indices n k.entry → k.facts ≡ get_or facts n k.facts
      → k.index ≡ n → k.note_number ≡ note → k.number ≡ number k.entry → k.ibid ≡ ibid_at same counts_at_first x.style.citation.ibid_after_one n last (item_view (λ e. k.entry) answers i) → lent_names k.first_names ≡ [] → new ≡ run ++ k ∷ []
      → run_from run n last ≡ all → run_from new (n + 1) (Some (n, item_view (λ e. k.entry) answers i)) ≡ all
  run_puts run new n i k last all long a b c is ps fs at noted numbered stands unnamed made h =
      run_goes_on run new n i k.entry k.facts k last all long a b c is ps fs
      (λ j. record {
        cite = record {
          item = item_view (λ e. k.entry) answers i;
          index = at j;
          context = x;
          note_number = noted j;
          first_note_number = k.facts.first_note_number;
          is_near_note = k.facts.is_near_note;
          is_first = k.facts.is_first;
        };
        number = numbered j;
        ibid = stands j;
        first_names = unnamed j;
      })
      made h

  pub run_begins : (run : List NumberedCite) (last : Option (ℕ × Item P)) → run ≡ [] → run_from run 0 last ≡ numbering same number last (cites_view answers x note 0 items indices facts)
  run_begins run last e = ap (λ ns. run_from ns 0 last) e ∙ ap (λ ns. ns ++ numbering same number last (cites_view answers x note 0 items indices facts)) (none_view answers x items)

  pub run_ends : (run : List NumberedCite) (n : ℕ) (last : Option (ℕ × Item P)) (all : List (Numbered P)) → length items ≤ n → run_from run n last ≡ all → numbered_cites_view answers x items run ≡ all
  run_ends run n last all over h =
      sym (append-nil (numbered_cites_view answers x items run))
      ∙ ap (λ is. numbered_cites_view answers x items run ++ numbering same number last (cites_view answers x note n is (drop n indices) (drop n facts))) (sym (drop_all n items over))
      ∙ h

last_is : {T P : Type 0} (answers : T → Answers) (x : StyleContext) (number : Option ℕ) (n : ℕ) (last : Option (ℕ × Item P)) (items : List (CitationItem T P)) (indices : List ℕ) (facts : List CiteFacts) → length facts ≡ length items
    → last_after last (cites_view answers x number n items indices facts) ≡ last_item_among answers last n items indices
last_is answers x number n last [] indices facts long = refl
last_is answers x number n last (i ∷ is) [] facts long = refl
last_is answers x number n last (i ∷ is) (p ∷ ps) [] long = absurd (omega arith)
last_is answers x number n last (i ∷ is) (p ∷ ps) (f ∷ fs) long = last_is answers x number (n + 1) (Some (n, item_view (λ e. p) answers i)) is ps fs (omega arith)

none_view_of : {T P : Type 0} (A : Type 0) (answers : T → Answers) (requests : List (CitationRequest T P)) → all_numbered_cites_view {A = A} answers requests [] ≡ []
none_view_of A answers [] = refl
none_view_of A answers (r ∷ rs) = refl

runs_more : {T P A : Type 0} (answers : T → Answers) (requests : List (CitationRequest T P)) (vs : List (Vec NumberedCite A)) (v : Vec NumberedCite A) (r : CitationRequest T P) → length vs < length requests → r ≡ get_or requests (length vs) r
    → all_numbered_cites_view answers requests (vs ++ v ∷ []) ≡ all_numbered_cites_view answers requests vs ++ numbered_cites_view answers (context_of r) r.items.items v.items ∷ []
runs_more answers [] vs v r less at = absurd (omega arith)
runs_more {T} {P} {A} answers (q ∷ qs) [] v r less at =
    ap (λ ns. numbered_cites_view answers (context_of q) q.items.items v.items ∷ ns) (none_view_of A answers qs) ∙ ap (λ (m : CitationRequest T P). numbered_cites_view answers (context_of m) m.items.items v.items ∷ []) (sym at)
runs_more answers (q ∷ qs) (w ∷ ws) v r less at = ap (λ ns. numbered_cites_view answers (context_of q) q.items.items w.items ∷ ns) (runs_more answers qs ws v r (omega arith) at)

module _ {T P A B : Type 0} (answers : T → Answers) (requests : List (CitationRequest T P)) (indices : List (Vec ℕ A)) (facts : List (Vec CiteFacts B)) where
  all_step : (n : ℕ) (r : CitationRequest T P) (p : Vec ℕ A) (f : Vec CiteFacts B) → n < length requests → n < length indices → n < length facts → r ≡ get_or requests n r → p ≡ get_or indices n p → f ≡ get_or facts n f
      → all_cites_view answers (drop n requests) (drop n indices) (drop n facts)
      ≡ cites_view answers (context_of r) r.note_number 0 r.items.items p.items f.items ∷ all_cites_view answers (drop (n + 1) requests) (drop (n + 1) indices) (drop (n + 1) facts)
  all_step n r p f a b c is ps fs =
      (λ k. all_cites_view answers (drop_more requests n r a k) (drop_more indices n p b k) (drop_more facts n f c k))
      ∙ (λ k. cites_view answers (context_of (sym is k)) (sym is k).note_number 0 (sym is k).items.items (sym ps k).items (sym fs k).items ∷ all_cites_view answers (drop (n + 1) requests) (drop (n + 1) indices) (drop (n + 1) facts))

module _ {T P A B C : Type 0} (answers : T → Answers) (same : P → P → Bool) (number : ℕ → ℕ) (requests : List (CitationRequest T P)) (indices : List (Vec ℕ A)) (facts : List (Vec CiteFacts B)) where
  -- the runs of cites that are numbered, and those that are left
  abbrev pub runs_from : List (Vec NumberedCite C) → ℕ → Option (ℕ × Item P) → List (List (Numbered P))
  runs_from vs n last = all_numbered_cites_view answers requests vs ++ numbering_all same number last (all_cites_view answers (drop n requests) (drop n indices) (drop n facts))

  pub runs_go_on : (vs new : List (Vec NumberedCite C)) (n : ℕ) (r : CitationRequest T P) (p : Vec ℕ A) (f : Vec CiteFacts B) (ps : List ℕ) (fs : List CiteFacts) (v : Vec NumberedCite C) (last next : Option (ℕ × Item P)) (all : List (List (Numbered P)))
      → length vs ≡ n → n < length requests → n < length indices → n < length facts → r ≡ get_or requests n r → p ≡ get_or indices n p → f ≡ get_or facts n f → ps ≡ p.items → fs ≡ f.items → length fs ≡ length r.items.items
      → numbered_cites_view answers (context_of r) r.items.items v.items ≡ numbering same number last (cites_view answers (context_of r) r.note_number 0 r.items.items ps fs)
      → next ≡ last_item_among answers last 0 r.items.items ps → new ≡ vs ++ v ∷ [] → runs_from vs n last ≡ all → runs_from new (n + 1) next ≡ all
  runs_go_on vs new n r p f ps fs v last next all long a b c is at_p at_f are_p are_f many says after made h =
      let cites = cites_view answers (context_of r) r.note_number 0 r.items.items ps fs in
      let rest = all_cites_view answers (drop (n + 1) requests) (drop (n + 1) indices) (drop (n + 1) facts) in
      let less : length vs < length requests = omega arith in
      let follows : next ≡ last_after last cites = after ∙ sym (last_is answers (context_of r) r.note_number 0 last r.items.items ps fs many) in
      (λ k. all_numbered_cites_view answers requests (made k) ++ numbering_all same number (follows k) rest)
      ∙ ap (λ ns. ns ++ numbering_all same number (last_after last cites) rest) (runs_more answers requests vs v r less (is ∙ ap (λ m. get_or requests m r) (sym long)))
      ∙ append_assoc (all_numbered_cites_view answers requests vs) (numbered_cites_view answers (context_of r) r.items.items v.items ∷ []) (numbering_all same number (last_after last cites) rest)
      ∙ ap (λ m. all_numbered_cites_view answers requests vs ++ m ∷ numbering_all same number (last_after last cites) rest) says
      ∙ (λ k. all_numbered_cites_view answers requests vs ++ numbering_all same number last (cites_view answers (context_of r) r.note_number 0 r.items.items (are_p k) (are_f k) ∷ rest))
      ∙ ap (λ css. all_numbered_cites_view answers requests vs ++ numbering_all same number last css) (sym (all_step answers requests indices facts n r p f a b c is at_p at_f))
      ∙ h

  pub runs_begin : (vs : List (Vec NumberedCite C)) (last : Option (ℕ × Item P)) → vs ≡ [] → runs_from vs 0 last ≡ numbering_all same number last (all_cites_view answers requests indices facts)
  runs_begin vs last e = ap (λ ws. runs_from ws 0 last) e ∙ ap (λ ns. ns ++ numbering_all same number last (all_cites_view answers requests indices facts)) (none_view_of C answers requests)

  pub runs_end : (vs : List (Vec NumberedCite C)) (n : ℕ) (last : Option (ℕ × Item P)) (all : List (List (Numbered P))) → length requests ≤ n → runs_from vs n last ≡ all → all_numbered_cites_view answers requests vs ≡ all
  runs_end vs n last all over h =
      sym (append-nil (all_numbered_cites_view answers requests vs))
      ∙ ap (λ rs. all_numbered_cites_view answers requests vs ++ numbering_all same number last (all_cites_view answers rs (drop n indices) (drop n facts))) (sym (drop_all n requests over))
      ∙ h

-- the indices of a request are below what all are
pub indices_within : {A : Type 0} (vs : List (Vec ℕ A)) (count n : ℕ) (v : Vec ℕ A) (ps : List ℕ) → n < length vs → v ≡ get_or vs n v → ps ≡ v.items → All (All (λ p. p < count)) (runs vs) → All (λ p. p < count) ps
indices_within {A} vs count n v ps here at is within =
    let long : n < length (runs vs) = subst (λ m. n < m) (sym (length-map vs (λ (w : Vec ℕ A). w.items))) here in
    let run : get_or (runs vs) n [] ≡ ps = get_or-map (λ (w : Vec ℕ A). w.items) vs n v [] here ∙ sym (ap (λ (w : Vec ℕ A). w.items) at) ∙ sym is in
    subst (λ (qs : List ℕ). All (λ p. p < count) qs) run (All-get_or (All (λ p. p < count)) (runs vs) n [] long within)
