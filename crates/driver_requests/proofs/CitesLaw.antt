-- What is known of cites from how entries stand is what is known of them from earlier requests.
use Rattle.std.proofs.Common.{◌≡◌, ℕ, ◌+◌, not, ◌&&◌, ◌||◌, ◌==◌, List, [], ◌∷◌, ◌++◌, map, length, take, refl, sym, ap, ap₂, ◌∙◌, is_some}
use Rattle.std.specs.List.{list_any, enumerate_from}
use Rattle.std.specs.Option.{option_map, unwrap_or}
use Rattle.std.proofs.Math.Path.{fun_ext}
use Rattle.std.proofs.lemmas.List.{take-map, length-append}
use Rattle.rendering_entries.specs.Answers.{Answers}
use Rattle.driver_requests.specs.Cites.{cite_at, cites_after, cites_of, request_cites}
use Rattle.driver_requests.specs.Notes.{facts_of, noted, note_view, notes_view}
use Rattle.driver_requests.specs.Requests.{Item, Request, cites_entry}
use Rattle.driver_requests.specs.History.{is_among, cited_in, facts_from, facts_after, facts_of_all, after_request}
use Rattle.driver_requests.specs.declared.history.History.{History}
use Rattle.driver_requests.specs.Views.{entries_of, entry_of_item, item_view, request_view}
use Rattle.driver_requests.specs.declared.item.CitationItem.{CitationItem}
use Rattle.driver_requests.specs.declared.request.CitationRequest.{CitationRequest}
use Rattle.driver_requests.proofs.HistoryAfter.{history_after, history_more, near_is}

-- how an entry stands after requests
abbrev after : {P : Type 0} → List (Request P) → ℕ → History
after {P} rs q = history_after (request_cites {P = P} q) (λ (r : Request P). r.note_number) rs

cites_among : {P : Type 0} (q : ℕ) (is : List (Item P)) → list_any (cites_entry q) is ≡ is_among (map (λ (i : Item P). i.entry.index) is) q
cites_among q [] = refl
cites_among q (i ∷ is) = ap (λ b. (i.entry.index == q) || b) (cites_among q is)

-- what is known of one cite
fact_is : {P : Type 0} (earlier : List (Request P)) (r : Request P) (index : ℕ) (i : Item P)
    → facts_of (cite_at earlier r (index, i))
    ≡ facts_from (length earlier) r.note_number r.context.style.citation.near_note_distance (cited_in (take index (map (λ (j : Item P). j.entry.index) r.items)) i.entry.index (after earlier i.entry.index))
fact_is {P} earlier r index i =
    let q = i.entry.index in
    let near = sym (near_is (request_cites {P = P} q) (λ (x : Request P). x.note_number) earlier r.context.style.citation.near_note_distance) in
    let before = cites_among q (take index r.items) ∙ ap (λ ps. is_among ps q) (sym (take-map (λ (j : Item P). j.entry.index) index r.items)) in
    λ k. record {
      first_note_number = option_map (λ n. unwrap_or (after earlier q).first_note n) r.note_number;
      is_near_note = is_some r.note_number && near k;
      is_first = not (list_any (request_cites {P = P} q) earlier || before k);
    }

run_is : {C I Y : Type 0} (facts : C → Y) (cite : ℕ × I → C) (entry : I → ℕ) (known : ℕ → ℕ → Y) → ((j : ℕ) (i : I) → facts (cite (j, i)) ≡ known j (entry i))
    → (n : ℕ) (is : List I) → map facts (map cite (enumerate_from n is)) ≡ map (λ (p : ℕ × ℕ). known p.0 p.1) (enumerate_from n (map entry is))
run_is facts cite entry known each n [] = refl
run_is facts cite entry known each n (i ∷ is) = ap₂ (λ y ys. y ∷ ys) (each n i) (run_is facts cite entry known each (n + 1) is)

more : {P : Type 0} (earlier : List (Request P)) (r : Request P) → after (earlier ++ r ∷ []) ≡ (λ q. after_request (length earlier) (noted r) q (after earlier q))
more {P} earlier r =
    fun_ext (λ q. history_more (request_cites {P = P} q) (λ (x : Request P). x.note_number) (λ (x : Request P). map (λ (i : Item P). i.entry.index) x.items) q earlier r (cites_among q r.items))

all : {P : Type 0} (rs earlier : List (Request P)) → map (map facts_of) (cites_after earlier rs) ≡ facts_after (length earlier) (after earlier) (map noted rs)
all [] earlier = refl
all {P} (r ∷ rs) earlier =
    ap₂ (λ f fs. f ∷ fs)
    (run_is facts_of (cite_at earlier r) (λ (i : Item P). i.entry.index)
    (λ j q. facts_from (length earlier) r.note_number r.context.style.citation.near_note_distance (cited_in (take j (map (λ (i : Item P). i.entry.index) r.items)) q (after earlier q)))
    (fact_is earlier r) 0 r.items)
    (all rs (earlier ++ r ∷ []) ∙ ap₂ (λ n s. facts_after n s (map noted rs)) (length-append earlier (r ∷ [])) (more earlier r))

-- what is known of all cites
pub cites_are : {P : Type 0} (rs : List (Request P)) → facts_of_all (map noted rs) ≡ map (map facts_of) (cites_of rs)
cites_are rs = sym (all rs [])

indices_are : {T P : Type 0} (entry : T → ℕ) (answers : T → Answers) (is : List (CitationItem T P))
    → map entry (map entry_of_item is) ≡ map (λ (i : Item P). i.entry.index) (map (item_view entry answers) is)
indices_are entry answers [] = refl
indices_are entry answers (i ∷ is) = ap (λ ps. entry i.entry.now ∷ ps) (indices_are entry answers is)

-- requests whose runs of indices are those of their entries
pub notes_are : {T P : Type 0} (entry : T → ℕ) (answers : T → Answers) (rs : List (CitationRequest T P))
    → notes_view rs (map (λ r. map entry (entries_of r)) rs) ≡ map noted (map (request_view entry answers) rs)
notes_are entry answers [] = refl
notes_are entry answers (r ∷ rs) = ap₂ (λ n ns. n ∷ ns) (ap (note_view r) (indices_are entry answers r.items.items)) (notes_are entry answers rs)

-- the cites of requests
pub cites_by : {T P : Type 0} (entry : T → ℕ) (answers : T → Answers) (rs : List (CitationRequest T P)) (runs : List (List ℕ)) → runs ≡ map (λ r. map entry (entries_of r)) rs
    → facts_of_all (notes_view rs runs) ≡ map (map facts_of) (cites_of (map (request_view entry answers) rs))
cites_by entry answers rs runs is = ap (λ ps. facts_of_all (notes_view rs ps)) is ∙ ap facts_of_all (notes_are entry answers rs) ∙ cites_are (map (request_view entry answers) rs)
