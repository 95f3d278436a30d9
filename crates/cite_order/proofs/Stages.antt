-- Citations and bibliography in order, stage by stage.
use Rattle.std.proofs.Common.{◌≡◌, ℕ, Bool, true, false, cond, All, List, [], ◌∷◌, ◌++◌, map, length, Result, Ok, Err, refl, sym, ap, subst, ◌∙◌}
use Rattle.std.specs.List.{enumerate_from, range_with_len}
use Rattle.std.proofs.lemmas.List.{length-map}
use Rattle.std.proofs.lemmas.List.Elements.{All-nil, All-cons, All-head, All-tail, All-append}
use Rattle.laws.specs.Results.{◌>>=◌}
use Rattle.laws.specs.Text.{is_filled}
use Rattle.literature.specs.Trees.{Tree}
use Rattle.literature_entries.specs.EntriesData.{EntryData, entry_view}
use Rattle.literature_entries.specs.declared.entry.Entry.{Entry}
use Rattle.literature_entries.specs.contracts.entry.EntryPartialEq.TheImpl as entry
use Rattle.rendering_context.specs.Contexts.{StyleContext}
use Rattle.rendering_entries.specs.Library.{answers_of}
use Rattle.rendering_style.specs.Styles.{Style}
use Rattle.driver_requests.specs.CitedEntries.{once, index_among, indices_among}
use Rattle.driver_requests.specs.Order.{number_in, ordered}
use Rattle.driver_requests.specs.Views.{entries_in}
use Rattle.driver_requests.specs.declared.request.CitationRequest.{CitationRequest}
use Rattle.driver_order.specs.Order.{entries_in_order}
use Rattle.driver_order.specs.Sorted.{number_among, request_in_order, request_parts, requests_in_order}
use Rattle.driver_order.proofs.RequestsSorted.{cited_is as all_cited}
use Rattle.driver.specs.Finish.{finish}
use Rattle.cite.specs.Finished.{finished}
use Rattle.cite.specs.Verdict.{driver_stage, rendered_stage}
use Rattle.cite.proofs.DocumentAsked.{document_is, markers_listed}
use Rattle.cite.proofs.RenderedStages.{finishes}
use Rattle.cite_markers.specs.Document.{Piece}
use Rattle.cite_requests.specs.Asked.{asked_request, asked_request_view, requests_asked}
use Rattle.cite_requests.specs.Markers.{CitedWork, cited_works, markers_of}
use Rattle.cite_requests.specs.Requests.{OwnLocator, is_same_own, works_in}
use Rattle.cite_requests.specs.Sections.{chosen}
use Rattle.cite_requests.specs.Stages.{Refusal, overflow, refused_as, name_stage, section_stage, unknown_name}
use Rattle.cite_requests.specs.Works.{Works, is_same}
use Rattle.cite_requests.proofs.AskedIndices.{asked_works, entries_asked, works_asked}
use Rattle.cite_requests.proofs.EntriesIndices as indices
use Rattle.cite_requests.proofs.EntriesIndices.{AreListedWorks, index_is, indices_are}
use Rattle.cite_requests.proofs.RequestsNamed.{requests_are}
use Rattle.cite_requests.proofs.StepsRefused.{given}
use Rattle.laws.proofs.Results.{bind_ok, ok_is}
use Rattle.cite_order.specs.Listed.{IsListed, AreListed}
use Rattle.cite_order.specs.Order.{Setting, keys_context, has_keys, works_in_order, choices, order_of, number_of, markers_in_order, stage_by_order, stage_in_order, rendered_in_order}
use Rattle.cite_order.proofs.EntriesInOrder.{entries_mapped, order_all}
use Rattle.cite_order.proofs.ListedWorks.{IsListedEntry, listed_each, listed_all, entries_listed, once_viewed, chosen_listed}
use Rattle.cite_order.proofs.MarkersInOrder.{IsNumbered, all_requested, requested, requests_sorted, sorted_asked, markers_sorted, works_sorted}
use Rattle.cite_order.proofs.OnceAgreed.{once_all}

-- entries that are listed are listed one by one
listed_entries : (library : List EntryData) (es : List Entry) → All (IsListedEntry library) es → indices.AreListed library es
listed_entries library [] h = tt
listed_entries library (e ∷ es) h = (All-head (IsListedEntry library) e es h, listed_entries library es (All-tail (IsListedEntry library) e es h))

-- the number of an entry is that of its work
module _ (library : List EntryData) (s : Style) (cited order : List Entry) (listed : All (IsListedEntry library) cited) (wanted : All (IsListedEntry library) order) where
  many : length (once entry.ghosts.eq cited) ≡ length (once is_same (map entry_view cited))
  many = sym (length-map (once entry.ghosts.eq cited) entry_view) ∙ ap length (once_viewed library cited listed)

  number_is : (e : Entry) → IsListedEntry library e → number_among entry.ghosts.eq s order cited e ≡ number_among is_same s (map entry_view order) (map entry_view cited) (entry_view e)
  number_is e h =
      let at = index_is library cited (listed_entries library cited listed) e h in
      let those = indices_are library cited (listed_entries library cited listed) order (listed_entries library order wanted) in
      λ i. number_in 0 (ordered s.bibliography (those i) (range_with_len 0 (many i))) (at i)

  pub numbers_are : (own : EntryData → ℕ) → ((e : Entry) → number_among is_same s (map entry_view order) (map entry_view cited) (entry_view e) ≡ own (entry_view e))
      → (es : List Entry) → All (IsListedEntry library) es → All (λ e. number_among entry.ghosts.eq s order cited e ≡ own (entry_view e)) es
  numbers_are own same [] h = All-nil (λ e. number_among entry.ghosts.eq s order cited e ≡ own (entry_view e))
  numbers_are own same (e ∷ es) h =
      All-cons (λ e. number_among entry.ghosts.eq s order cited e ≡ own (entry_view e)) e es
      (number_is e (All-head (IsListedEntry library) e es h) ∙ same e) (numbers_are own same es (All-tail (IsListedEntry library) e es h))

-- the order of a bibliography is of listed works
choices_listed : (library cited : List EntryData) (b : Bool) → AreListed library cited → AreListed library library → AreListed library (cond b cited library)
choices_listed library cited true h all = h
choices_listed library cited false h all = all

order_listed : (library : List EntryData) (s : Style) (selectors : List Tree) (cited : List EntryData) → AreListed library cited → AreListed library library → AreListed library (order_of s selectors library cited)
order_listed library s selectors cited h all =
    All-append (IsListed library) (chosen selectors (choices s cited library)) cited
    (chosen_listed library selectors (choices s cited library) (choices_listed library cited (is_filled s.bibliography_sort) h all)) h

-- What the driver gives of requests in order.
module _ (s : Setting) (library : List EntryData) (selectors : List Tree) (rs sorted : List (CitationRequest Entry OwnLocator)) (ms : List (List CitedWork)) (cited order : List Entry)
    (asked : map asked_request_view rs ≡ map (asked_request s.context) (enumerate_from 1 ms)) (listed : AreListed library (works_in ms)) (all : AreListed library library)
    (cited_is : cited ≡ entries_in_order (keys_context s) (λ e. answers_of (entry_view e)) (once entry.ghosts.eq (entries_in rs)))
    (order_is : map entry_view order ≡ order_of s.sorting selectors library (map entry_view cited))
    (sorted_is : map request_parts sorted ≡ requests_in_order entry.ghosts.eq (λ e. answers_of (entry_view e)) s.sorting order (map request_parts rs)) where
  works : map entry_view (entries_in rs) ≡ works_in ms
  works = entries_asked rs ∙ ap asked_works asked ∙ works_asked s.context 1 ms

  entries_all : All (IsListedEntry library) (entries_in rs)
  entries_all = entries_listed library (entries_in rs) (subst (AreListed library) (sym works) listed)

  cited_works_are : map entry_view cited ≡ works_in_order s ms
  cited_works_are =
      ap (map entry_view) cited_is
      ∙ entries_mapped entry_view (keys_context s) answers_of (once entry.ghosts.eq (entries_in rs))
      ∙ ap (entries_in_order (keys_context s) answers_of) (once_viewed library (entries_in rs) entries_all ∙ ap (once is_same) works)

  abbrev wanted : List EntryData
  wanted = order_of s.sorting selectors library (works_in_order s ms)

  order_works : map entry_view order ≡ wanted
  order_works = order_is ∙ ap (order_of s.sorting selectors library) cited_works_are

  wanted_listed : AreListed library wanted
  wanted_listed =
      order_listed library s.sorting selectors (works_in_order s ms)
      (order_all (IsListed library) (keys_context s) answers_of (once is_same (works_in ms)) (once_all (IsListed library) is_same (works_in ms) listed)) all

  abbrev own : EntryData → ℕ
  own = number_of s.sorting ms wanted

  numbered : All (IsNumbered s.sorting (number_among entry.ghosts.eq s.sorting order (entries_in rs)) own) (entries_in rs)
  numbered =
      numbers_are library s.sorting (entries_in rs) order entries_all (entries_listed library order (subst (AreListed library) (sym order_works) wanted_listed)) own
      (λ e. λ i. number_among is_same s.sorting (order_works i) (works i) (entry_view e)) (entries_in rs) entries_all

  abbrev sorted_markers : List (List CitedWork)
  sorted_markers = markers_in_order (keys_context s) own ms

  sorted_asked_is : map asked_request_view sorted ≡ map (asked_request s.context) (enumerate_from 1 sorted_markers)
  sorted_asked_is =
      sym (all_requested sorted) ∙ ap (map requested) sorted_is
      ∙ ap (λ (es : List Entry). map requested (map (request_in_order s.sorting (λ e. answers_of (entry_view e)) (number_among entry.ghosts.eq s.sorting order es)) (map request_parts rs))) (all_cited rs)
      ∙ requests_sorted s.sorting (number_among entry.ghosts.eq s.sorting order (entries_in rs)) own rs numbered
      ∙ ap (map (sorted_asked s.sorting own)) (all_requested rs ∙ asked)
      ∙ markers_sorted s.sorting (number_among entry.ghosts.eq s.sorting order (entries_in rs)) own s.context 1 ms

  pub by_order : finished entry.ghosts.eq s.context sorted order ≡ stage_by_order s selectors library ms
  by_order =
      ap (λ d. refused_as (λ _. overflow) (finish is_same_own d))
      (document_is library s.context sorted sorted_markers order wanted sorted_asked_is (listed_each library (works_in sorted_markers) (works_sorted (IsListed library) (keys_context s) own ms listed)) order_works
      (listed_each library wanted wanted_listed))

-- the markers of requests
pub markers_for : (works : Works) (x : StyleContext) (ps : List Piece) (rs : List (CitationRequest Entry OwnLocator)) → requests_asked works x ps ≡ Ok (map asked_request_view rs)
    → (ms : List (List CitedWork)) × (name_stage works ps ≡ Ok ms) × (map asked_request_view rs ≡ map (asked_request x) (enumerate_from 1 ms)) × AreListed works.library (works_in ms)
markers_for works x ps rs asked =
    let named = bind_ok (name_stage works ps) (λ ms. Ok (map (asked_request x) (enumerate_from 1 ms))) (map asked_request_view rs) (sym (requests_are works x ps) ∙ asked) in
    let ms = named.0 in (
      ms,
      named.1,
      sym (ok_is {F = Refusal} (map (asked_request x) (enumerate_from 1 ms)) (map asked_request_view rs) named.2),
      listed_all works.library (works_in ms) (markers_listed works (markers_of ps) ms (given unknown_name (cited_works works ps) ms named.1)),
    )

-- a name that is unknown
before : {F X Y : Type 0} (found : Result X F) (f : X → Y) (r : F) → (found >>= λ x. Ok (f x)) ≡ Err r → found ≡ Err r
before {F} {X} {Y} (Ok x) f r is = absurd cc
before {F} {X} {Y} (Err q) f r is = ap (again q) is
  where
    again : F → Result Y F → Result X F
    again d (Ok y) = Err d
    again d (Err e) = Err e

stops_at_names : (works : Works) (s : Setting) (sections : List (List ℕ)) (ps : List Piece) (r : Refusal) → name_stage works ps ≡ Err r → rendered_in_order works s sections ps ≡ Err r
unfolding rendered_in_order
stops_at_names works s sections ps r is = rw is refl

pub names_stop : (works : Works) (s : Setting) (sections : List (List ℕ)) (ps : List Piece) (r : Refusal) → requests_asked works s.context ps ≡ Err r → rendered_in_order works s sections ps ≡ Err r
names_stop works s sections ps r is =
    stops_at_names works s sections ps r (before (name_stage works ps) (λ ms. map (asked_request s.context) (enumerate_from 1 ms)) r (sym (requests_are works s.context ps) ∙ is))

-- a section that is no selector, where all names are known
stops_at_sections : (works : Works) (s : Setting) (sections : List (List ℕ)) (ps : List Piece) (ms : List (List CitedWork)) (r : Refusal)
    → name_stage works ps ≡ Ok ms → section_stage sections ≡ Err r → rendered_in_order works s sections ps ≡ Err r
unfolding rendered_in_order
stops_at_sections works s sections ps ms r named is = rw (named, is) refl

pub sections_stop : (works : Works) (s : Setting) (sections : List (List ℕ)) (ps : List Piece) (rs : List (CitationRequest Entry OwnLocator)) (r : Refusal)
    → requests_asked works s.context ps ≡ Ok (map asked_request_view rs) → section_stage sections ≡ Err r → rendered_in_order works s sections ps ≡ Err r
sections_stop works s sections ps rs r asked stopped =
    let found = markers_for works s.context ps rs asked in
    stops_at_sections works s sections ps found.0 r found.1 stopped

-- where names and sections are known
after_sections : (works : Works) (s : Setting) (sections : List (List ℕ)) (ps : List Piece) (ms : List (List CitedWork)) (xs : List Tree)
    → name_stage works ps ≡ Ok ms → section_stage sections ≡ Ok xs → rendered_in_order works s sections ps ≡ stage_in_order s xs works.library ms
unfolding rendered_in_order
after_sections works s sections ps ms xs named is = rw (named, is) refl

-- a style with keys, and one without
pub with_keys : (works : Works) (s : Setting) (sections : List (List ℕ)) (ps : List Piece) (ms : List (List CitedWork)) (xs : List Tree)
    → name_stage works ps ≡ Ok ms → section_stage sections ≡ Ok xs → has_keys s.sorting ≡ true → stage_by_order s xs works.library ms ≡ rendered_in_order works s sections ps
with_keys works s sections ps ms xs named is keys =
    sym (after_sections works s sections ps ms xs named is ∙ ap (λ (b : Bool). cond b (stage_by_order s xs works.library ms) (driver_stage s.context (chosen xs works.library) ms)) keys)

pub keyless : (works : Works) (s : Setting) (sections : List (List ℕ)) (ps : List Piece) → has_keys s.sorting ≡ false → rendered_in_order works s sections ps ≡ rendered_stage works s.context sections ps
unfolding rendered_in_order rendered_stage
keyless works s sections ps none =
    ap (λ (b : Bool). name_stage works ps >>= λ ms. section_stage sections >>= λ xs. cond b (stage_by_order s xs works.library ms) (driver_stage s.context (chosen xs works.library) ms)) none
