-- What a driver is asked by requests of the code is what it is asked by the markers of a document.
use Rattle.std.proofs.Common.{◌≡◌, ℕ, All, List, [], ◌∷◌, ◌++◌, map, filter, Option, Some, None, Ok, cond, refl, sym, ap, subst, ◌∙◌, Bool, true, false}
use Rattle.std.specs.Prelude.{option_and_then}
use Rattle.std.specs.List.{enumerate_from}
use Rattle.std.proofs.lemmas.List.Elements.{All-head, All-tail}
use Rattle.laws.specs.Text.{text}
use Rattle.laws.proofs.Results.{ok_is}
use Rattle.biblatex.specs.Listed.{entry_named}
use Rattle.biblatex.specs.Entries.{Source}
use Rattle.biblatex.specs.TypeNames.{written_type}
use Rattle.literature.specs.Keys.{with_key}
use Rattle.literature_entries.specs.EntriesData.{EntryData, entry_view}
use Rattle.literature_entries.specs.declared.entry.Entry.{Entry}
use Rattle.literature_entries.specs.contracts.entry.EntryPartialEq.TheImpl as entry
use Rattle.literature.specs.Trees.{Tree}
use Rattle.interop.specs.Library.{key_of, is_xdata}
use Rattle.rendering_entries.specs.Library.{answers_of}
use Rattle.rendering_context.specs.Contexts.{StyleContext}
use Rattle.driver_requests.specs.CitedEntries.{index_among, indices_among}
use Rattle.driver_requests.specs.Views.{entries_in, entries_of, request_view}
use Rattle.driver_requests.specs.declared.request.CitationRequest.{CitationRequest}
use Rattle.cite_markers.specs.Marker.{Cite}
use Rattle.cite_requests.specs.Asked.{asked_request, asked_request_view}
use Rattle.cite.specs.Finished.{document_asked}
use Rattle.literature.specs.Holding.{holds_at}
use Rattle.cite_requests.specs.Markers.{CitedWork, cited_work, with_work}
use Rattle.cite_requests.specs.Requests.{OwnLocator, requests_of, works_in}
use Rattle.cite_requests.specs.Sections.{chosen}
use Rattle.cite_requests.specs.Steps.{all_ok}
use Rattle.cite.specs.Verdict.{driver_document}
use Rattle.cite_requests.specs.Works.{Works, is_same, meaning, work_of}
use Rattle.cite_requests.proofs.AskedIndices.{AreAt, asked_works, entries_asked, items_by, indexed_request, requests_indexed, works_asked}
use Rattle.cite_requests.proofs.EntriesIndices.{IsListed, AreListed, AreListedWorks, chosen_listed, found_listed, joined, listed_entries, index_is, indices_are}
use Rattle.cite_requests.proofs.StepsRefused.{all_give}

module _ (works : Works) where
  named_if : (b : Bool) (k : List ℕ) (w : EntryData) → cond b None (with_key key_of k works.library) ≡ Some w → IsListed works.library w
  named_if true k w is = absurd cc
  named_if false k w is = found_listed works.library k w is

  meant_by : (o : Option Source) (w : EntryData) → option_and_then (work_of works.library) o ≡ Some w → IsListed works.library w
  meant_by None w is = absurd cc
  meant_by (Some e) w is = named_if (is_xdata (written_type e.entry_type)) e.key w is

  -- the work of a cite is listed
  abbrev IsListedCite : CitedWork → Type 0
  IsListedCite c = IsListed works.library c.work

  cited_by : (c : Cite) (o : Option EntryData) (found : CitedWork) → ((w : EntryData) → o ≡ Some w → IsListed works.library w) → with_work c o ≡ Ok found → IsListedCite found
  cited_by c None found h is = absurd cc
  cited_by c (Some w) found h is = subst IsListedCite (ok_is {F = List ℕ} (record { cite = c; work = w }) found is) (h w refl)

  cite_listed : (c : Cite) (found : CitedWork) → cited_work works c ≡ Ok found → IsListedCite found
  cite_listed c found is = cited_by c (meaning (text c.name) works) found (λ w e. meant_by (entry_named (text c.name) works.file) w e) is

  -- the works of a marker are
  abbrev IsListedMarker : List CitedWork → Type 0
  IsListedMarker cs = AreListedWorks works.library (map (λ c. c.work) cs)

  marker_listed : (cs : List CitedWork) → All IsListedCite cs → IsListedMarker cs
  marker_listed [] all = tt
  marker_listed (c ∷ cs) all = (All-head IsListedCite c cs all, marker_listed cs (All-tail IsListedCite c cs all))

  -- the works of all markers are
  all_listed : (ms : List (List CitedWork)) → All IsListedMarker ms → AreListedWorks works.library (works_in ms)
  all_listed [] all = tt
  all_listed (m ∷ ms) all = joined works.library (map (λ c. c.work) m) (works_in ms) (All-head IsListedMarker m ms all) (all_listed ms (All-tail IsListedMarker m ms all))

  pub markers_listed : (ms : List (List Cite)) (found : List (List CitedWork)) → all_ok (all_ok (cited_work works)) ms ≡ Ok found → AreListedWorks works.library (works_in found)
  markers_listed ms found is =
      all_listed found
      (all_give IsListedMarker (all_ok (cited_work works)) (λ m cs e. marker_listed cs (all_give IsListedCite (cited_work works) cite_listed m cs e)) ms found is)

-- the chosen works are those of a library whose works are listed
pub chosen_works_listed : (library : List EntryData) (selectors : List Tree) (ws : List EntryData) → AreListedWorks library ws → AreListedWorks library (chosen selectors ws)
chosen_works_listed library [] ws h = tt
chosen_works_listed library (x ∷ xs) ws h = joined library (filter (holds_at x) ws) (chosen xs ws) (chosen_listed library (holds_at x) ws h) (chosen_works_listed library xs ws h)

-- all cited entries have the indices of their works
indices_at : (library : List EntryData) (cited : List Entry) → AreListed library cited → (es : List Entry) → AreListed library es
    → AreAt (index_among entry.ghosts.eq cited) (index_among is_same (map entry_view cited)) es
indices_at library cited hs [] h = tt
indices_at library cited hs (e ∷ es) h = (index_is library cited hs e h.0, indices_at library cited hs es h.1)

first_part : (index : Entry → ℕ) (own : EntryData → ℕ) (es fs : List Entry) → AreAt index own (es ++ fs) → AreAt index own es
first_part index own [] fs h = tt
first_part index own (e ∷ es) fs h = (h.0, first_part index own es fs h.1)

second_part : (index : Entry → ℕ) (own : EntryData → ℕ) (es fs : List Entry) → AreAt index own (es ++ fs) → AreAt index own fs
second_part index own [] fs h = h
second_part index own (e ∷ es) fs h = second_part index own es fs h.1

requests_by : (index : Entry → ℕ) (own : EntryData → ℕ) (rs : List (CitationRequest Entry OwnLocator)) → AreAt index own (entries_in rs)
    → map (request_view index (λ e. answers_of (entry_view e))) rs ≡ map (indexed_request own) (map asked_request_view rs)
requests_by index own [] h = refl
requests_by index own (r ∷ rs) h =
    λ i. record (indexed_request own (asked_request_view r)) { items = items_by index own r.items.items (first_part index own (entries_of r) (entries_in rs) h) i }
    ∷ requests_by index own rs (second_part index own (entries_of r) (entries_in rs) h) i

-- The driver's document, where the requests are those of markers with listed works, and the chosen entries are listed.
pub document_is : (library : List EntryData) (x : StyleContext) (rs : List (CitationRequest Entry OwnLocator)) (ms : List (List CitedWork)) (es : List Entry) (wanted : List EntryData)
    → map asked_request_view rs ≡ map (asked_request x) (enumerate_from 1 ms) → AreListedWorks library (works_in ms) → map entry_view es ≡ wanted → AreListedWorks library wanted
    → document_asked entry.ghosts.eq x rs es ≡ driver_document x wanted ms
document_is library x rs ms es wanted asked listed is chosen =
    λ i. record { requests = requests i; bibliography_context = x; wanted = indices i; offset = 0 }
  where
    works : map entry_view (entries_in rs) ≡ works_in ms
    works = entries_asked rs ∙ ap asked_works asked ∙ works_asked x 1 ms

    cited : AreListed library (entries_in rs)
    cited = listed_entries library (entries_in rs) (subst (AreListedWorks library) (sym works) listed)

    requests : map (request_view (index_among entry.ghosts.eq (entries_in rs)) (λ e. answers_of (entry_view e))) rs ≡ requests_of x ms
    requests =
        requests_by (index_among entry.ghosts.eq (entries_in rs)) (index_among is_same (map entry_view (entries_in rs))) rs (indices_at library (entries_in rs) cited (entries_in rs) cited)
        ∙ (λ i. map (indexed_request (index_among is_same (works i))) (asked i)) ∙ requests_indexed x (works_in ms) 1 ms

    indices : indices_among entry.ghosts.eq (entries_in rs) es ≡ indices_among is_same (works_in ms) wanted
    indices =
        indices_are library (entries_in rs) cited es (listed_entries library es (subst (AreListedWorks library) (sym is) chosen)) ∙ (λ i. indices_among is_same (works i) (is i))
