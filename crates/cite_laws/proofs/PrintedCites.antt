-- The last prints of the cites of a document, each with the cite that it is of and the work that this means.
use Rattle.std.proofs.Common.{◌≡◌, ℕ, ◌+◌, ◌<◌, true, List, [], ◌∷◌, length, map, zip, slice_get, All, Option, Some, None, Ok, refl, sym, ap, subst, ◌∙◌, arith}
use Rattle.std.specs.List.{AllByRecursion, enumerate_from}
use Rattle.std.specs.Option.{option_map}
use Rattle.std.proofs.lemmas.List.Elements.{All-contains, All-from_recursion, recursion_from_All}
use Rattle.std.proofs.lemmas.List.FromFn.{get_or-enumerate_from, length-enumerate_from}
use Rattle.std.proofs.lemmas.Option.{none-some, same_Some, slice_get-get_or, slice_get-map}
use Rattle.laws.specs.Text.{text}
use Rattle.laws.proofs.Results.{ok_is}
use Rattle.literature_entries.specs.EntriesData.{EntryData}
use Rattle.interop.specs.Library.{key_of}
use Rattle.rendering_context.specs.Contexts.{StyleContext}
use Rattle.driver_requests.specs.Cites as cites
use Rattle.driver_requests.specs.Cites.{cite_at}
use Rattle.driver_requests.specs.CitedEntries.{index_among}
use Rattle.driver_requests.specs.Requests.{Item, Request}
use Rattle.driver_disambiguation.specs.Rounds.{Disambiguation}
use Rattle.driver_disambiguation.specs.States.{state_of}
use Rattle.driver_rounds.specs.Documents.{number_of}
use Rattle.driver_rounds.specs.FirstPrints.{disambiguated_in, first_prints_in}
use Rattle.driver.specs.Stages.{Final, cite_of}
use Rattle.driver.proofs.Members.{both_all, map_all, weaker_all, zip_all}
use Rattle.driver_laws.specs.Laws.{entry_final}
use Rattle.driver_laws.proofs.EntriesInStates.{IsInState, all_in_states}
use Rattle.cite_markers.specs.Marker.{Cite}
use Rattle.cite_requests.specs.Cited.{is_among}
use Rattle.cite_requests.specs.Markers.{CitedWork, cited_work, cited_works, markers_of, with_work}
use Rattle.cite_requests.specs.Requests.{OwnLocator, is_same_own, item_of, request_of, works_in}
use Rattle.cite_requests.specs.Stages.{unknown_name}
use Rattle.cite_requests.specs.Steps.{all_ok}
use Rattle.cite.specs.Verdict.{Task}
use Rattle.cite_requests.specs.Works.{Works, is_same, meaning}
use Rattle.cite.proofs.RequestsAlike.{among_all, cites_kept}
use Rattle.cite_requests.proofs.StepsRefused.{all_give, given}
use Rattle.cite_laws.specs.Printed.{IsPrintOf, NamesOfOneWorkShareNumberAndState, NoneIsRefused, document_of, prints_by_marker}
use Rattle.cite_laws.proofs.PlacesListed.{at_index}
use Rattle.cite_laws.proofs.Prints.{all_printed}

-- what holds of two by themselves holds together
both_hold : {A : Type 0} (P Q : A → Type 0) (xs : List A) → AllByRecursion P xs → AllByRecursion Q xs → AllByRecursion (λ x. P x × Q x) xs
both_hold P Q [] h g = tt
both_hold P Q (x ∷ xs) h g = ((h.0, g.0), both_hold P Q xs h.1 g.1)

each_both : {A : Type 0} (P Q : A → Type 0) (xss : List (List A)) → AllByRecursion (AllByRecursion P) xss → AllByRecursion (AllByRecursion Q) xss → AllByRecursion (AllByRecursion (λ x. P x × Q x)) xss
each_both P Q [] h g = tt
each_both P Q (xs ∷ xss) h g = (both_hold P Q xs h.0 g.0, each_both P Q xss h.1 g.1)

-- ---- items stand in their requests at the indices of their cites

module _ {P : Type 0} where
  abbrev Stands : Request P → cites.Cite P → Type 0
  Stands r c = slice_get r.items c.index ≡ Some c.item

  items_numbered : (is : List (Item P)) → All (λ (p : ℕ × Item P). slice_get is p.0 ≡ Some p.1) (enumerate_from 0 is)
  items_numbered is k p below =
      let within : k < length is = omega (arith, below, length-enumerate_from 0 is) in
      let first : 0 + k ≡ k = omega arith in
      subst (λ (q : ℕ × Item P). slice_get is q.0 ≡ Some q.1) (sym (get_or-enumerate_from 0 is k p within)) (ap (slice_get is) first ∙ slice_get-get_or is k p.1 within)

  cites_stand : (earlier : List (Request P)) (r : Request P) → AllByRecursion (Stands r) (map (cite_at earlier r) (enumerate_from 0 r.items))
  cites_stand earlier r =
      map_all (Stands r) (cite_at earlier r) (enumerate_from 0 r.items)
      (weaker_all (λ (p : ℕ × Item P). slice_get r.items p.0 ≡ Some p.1) (λ p. Stands r (cite_at earlier r p)) at (enumerate_from 0 r.items)
      (recursion_from_All (λ (p : ℕ × Item P). slice_get r.items p.0 ≡ Some p.1) (enumerate_from 0 r.items) (items_numbered r.items)))
    where
      at : (p : ℕ × Item P) → slice_get r.items p.0 ≡ Some p.1 → Stands r (cite_at earlier r p)
      at (index, i) g = g

-- ---- works that cites mean

module _ (works : Works) where
  abbrev Means : CitedWork → Type 0
  Means c = meaning (text c.cite.name) works ≡ Some c.work

  with_work_means : (c : Cite) (o : Option EntryData) (found : CitedWork) → with_work c o ≡ Ok found → (found.cite ≡ c) × (o ≡ Some found.work)
  with_work_means c None found is = absurd cc
  with_work_means c (Some w) found is =
      let mine : CitedWork = record { cite = c; work = w } in
      let one : mine ≡ found = ok_is {F = List ℕ} mine found is in
      (ap (λ (f : CitedWork). f.cite) (sym one), ap (λ (f : CitedWork). Some f.work) one)

  cite_means : (c : Cite) (found : CitedWork) → cited_work works c ≡ Ok found → Means found
  cite_means c found is =
      let parts = with_work_means c (meaning (text c.name) works) found is in
      ap (λ (e : Cite). meaning (text e.name) works) parts.0 ∙ parts.1

  marker_means : (cs : List Cite) (found : List CitedWork) → all_ok (cited_work works) cs ≡ Ok found → AllByRecursion Means found
  marker_means cs found is = recursion_from_All Means found (all_give Means (cited_work works) cite_means cs found is)

  markers_mean : (ms : List (List Cite)) (found : List (List CitedWork)) → all_ok (all_ok (cited_work works)) ms ≡ Ok found → AllByRecursion (AllByRecursion Means) found
  markers_mean ms found is = recursion_from_All (AllByRecursion Means) found (all_give (AllByRecursion Means) (all_ok (cited_work works)) marker_means ms found is)

module _ (Q : EntryData → Type 0) where
  marker_works : (cs : List CitedWork) → AllByRecursion Q (map (λ c. c.work) cs) → AllByRecursion (λ (c : CitedWork). Q c.work) cs
  marker_works [] h = tt
  marker_works (c ∷ cs) h = (h.0, marker_works cs h.1)

  -- what holds of all works that are cited holds of the work of each cite
  pub each_work : (ms : List (List CitedWork)) → AllByRecursion Q (works_in ms) → AllByRecursion (AllByRecursion (λ (c : CitedWork). Q c.work)) ms
  each_work [] h = tt
  each_work (m ∷ ms) h = let two = both_all Q (map (λ c. c.work) m) (works_in ms) h in (marker_works m two.0, each_work ms two.1)

-- the work of each cite has its key among those that are cited
pub works_among : (ms : List (List CitedWork)) → AllByRecursion (AllByRecursion (λ (c : CitedWork). is_among (map key_of (works_in ms)) (key_of c.work) ≡ true)) ms
works_among ms = each_work (λ w. is_among (map key_of (works_in ms)) (key_of w) ≡ true) ms (among_all (map key_of (works_in ms)) (works_in ms) (λ k e. e))

-- ---- prints and the cites that they are of

-- A print, and the cite with its work that stands at the print's index.
record HasCite (works : Works) (cited : List EntryData) (marker : List Cite) (print : Final OwnLocator) : Type 0 where
  pub cite : CitedWork
  pub stands : slice_get marker (cite_of print).index ≡ Some cite.cite
  pub item : (cite_of print).item ≡ item_of cited cite
  pub means : meaning (text cite.cite.name) works ≡ Some cite.work
  pub among : is_among (map key_of cited) (key_of cite.work) ≡ true

module _ (works : Works) (x : StyleContext) (cited : List EntryData) where
  abbrev IsCited : CitedWork → Type 0
  IsCited c = (meaning (text c.cite.name) works ≡ Some c.work) × (is_among (map key_of cited) (key_of c.work) ≡ true)

  found_at : (m : List CitedWork) (f : Final OwnLocator) (o : Option CitedWork) → AllByRecursion IsCited m → slice_get m (cite_of f).index ≡ o → option_map (item_of cited) o ≡ Some (cite_of f).item
      → HasCite works cited (map (λ c. c.cite) m) f
  found_at m f None h at is = absurd (none-some (cite_of f).item is)
  found_at m f (Some c) h at is =
      let cites = at_index IsCited m (cite_of f).index c (All-from_recursion IsCited m h) at in
      record {
        cite = c;
        stands = slice_get-map (λ (e : CitedWork). e.cite) m (cite_of f).index ∙ ap (option_map (λ (e : CitedWork). e.cite)) at;
        item = sym (same_Some (item_of cited c) (cite_of f).item is);
        means = cites.0;
        among = cites.1;
      }

  -- a print whose item stands at its index in the request of a marker
  has_cite : (m : List CitedWork) → AllByRecursion IsCited m → (f : Final OwnLocator) → slice_get (map (item_of cited) m) (cite_of f).index ≡ Some (cite_of f).item → HasCite works cited (map (λ c. c.cite) m) f
  has_cite m h f is = found_at m f (slice_get m (cite_of f).index) h refl (sym (slice_get-map (item_of cited) m (cite_of f).index) ∙ is)

  all_have : (n : ℕ) (ms : List (List CitedWork)) (fss : List (List (Final OwnLocator))) → AllByRecursion (AllByRecursion IsCited) ms
      → AllByRecursion (λ (p : Request OwnLocator × List (Final OwnLocator)). AllByRecursion (λ (f : Final OwnLocator). Stands p.0 (cite_of f)) p.1) (zip (map (request_of x cited) (enumerate_from n ms)) fss)
      → AllByRecursion (λ (p : List Cite × List (Final OwnLocator)). AllByRecursion (HasCite works cited p.0) p.1) (zip (map (map (λ c. c.cite)) ms) fss)
  all_have n [] fss h g = tt
  all_have n (m ∷ ms) [] h g = tt
  all_have n (m ∷ ms) (fs ∷ fss) h g = (
    weaker_all (λ (f : Final OwnLocator). slice_get (map (item_of cited) m) (cite_of f).index ≡ Some (cite_of f).item) (HasCite works cited (map (λ c. c.cite) m)) (has_cite m h.0) fs g.0,
    all_have (n + 1) ms fss h.1 g.1,
  )

module _ {bib : List ℕ} {task : Task} (read : NoneIsRefused bib task) where
  abbrev cited : List EntryData
  cited = works_in read.file.markers

  abbrev states : Disambiguation
  states = disambiguated_in (document_of read) (first_prints_in is_same_own (document_of read))

  found : all_ok (all_ok (cited_work read.file.works)) (markers_of read.asked.pieces) ≡ Ok read.file.markers
  found = given unknown_name (cited_works read.file.works read.asked.pieces) read.file.markers read.file.names

  -- all markers beside their prints
  abbrev beside : List (List Cite × List (Final OwnLocator))
  beside = zip (markers_of read.asked.pieces) (prints_by_marker read)

  abbrev HaveCites : List Cite × List (Final OwnLocator) → Type 0
  HaveCites p = AllByRecursion (HasCite read.file.works cited p.0) p.1

  all_cited : AllByRecursion HaveCites beside
  all_cited =
      subst (λ (ms : List (List Cite)). AllByRecursion HaveCites (zip ms (prints_by_marker read))) (cites_kept read.file.works read.asked.pieces read.file.markers found)
      (all_have read.file.works task.context cited 1 read.file.markers (prints_by_marker read)
      (each_both (Means read.file.works) (λ (c : CitedWork). is_among (map key_of cited) (key_of c.work) ≡ true) read.file.markers (markers_mean read.file.works (markers_of read.asked.pieces) read.file.markers found) (works_among read.file.markers))
      (all_printed is_same_own (document_of read) states Stands cites_stand))

  abbrev pub InState : Final OwnLocator → Type 0
  InState f = IsInState is_same_own (document_of read) states f

  abbrev AreInState : List Cite × List (Final OwnLocator) → Type 0
  AreInState p = AllByRecursion InState p.1

  all_in_state : AllByRecursion AreInState beside
  all_in_state = zip_all (AllByRecursion InState) (markers_of read.asked.pieces) (prints_by_marker read) (all_in_states is_same_own (document_of read) states)

  module _ (c : Cite) (f : Final OwnLocator) (print : IsPrintOf read c f) where
    its_cite : HasCite read.file.works cited print.marker f
    its_cite =
        let all = All-contains HaveCites beside (print.marker, print.prints) (All-from_recursion HaveCites beside all_cited) print.beside in
        All-contains (HasCite read.file.works cited print.marker) print.prints f (All-from_recursion (HasCite read.file.works cited print.marker) print.prints all) print.among

    one_cite : its_cite.cite.cite ≡ c
    one_cite = same_Some its_cite.cite.cite c (sym its_cite.stands ∙ print.stands)

    -- the name of the cite means a work
    pub its_work : (w : EntryData) × (meaning (text c.name) read.file.works ≡ Some w)
    its_work = (its_cite.cite.work, ap (λ (e : Cite). meaning (text e.name) read.file.works) (sym one_cite) ∙ its_cite.means)

    one_work : (w : EntryData) → meaning (text c.name) read.file.works ≡ Some w → its_cite.cite.work ≡ w
    one_work w means = same_Some its_cite.cite.work w (sym its_cite.means ∙ ap (λ (e : Cite). meaning (text e.name) read.file.works) one_cite ∙ means)

    -- the entry of the print is that of the work that the name means
    pub its_entry : (w : EntryData) → meaning (text c.name) read.file.works ≡ Some w → entry_final f ≡ index_among is_same cited w
    its_entry w means = ap (λ (i : Item OwnLocator). i.entry.index) its_cite.item ∙ ap (index_among is_same cited) (one_work w means)

    -- and the key of that work is among those that are cited
    pub its_key : (w : EntryData) → meaning (text c.name) read.file.works ≡ Some w → is_among (map key_of cited) (key_of w) ≡ true
    its_key w means = subst (λ (v : EntryData). is_among (map key_of cited) (key_of v) ≡ true) (one_work w means) its_cite.among

    -- the print has the number and the state of its entry
    pub its_state : InState f
    its_state =
        let all = All-contains AreInState beside (print.marker, print.prints) (All-from_recursion AreInState beside all_in_state) print.beside in
        All-contains InState print.prints f (All-from_recursion InState print.prints all) print.among

  -- cites whose names mean one work have one entry
  one_entry : (c e : Cite) (f g : Final OwnLocator) → IsPrintOf read c f → IsPrintOf read e g → meaning (text c.name) read.file.works ≡ meaning (text e.name) read.file.works → entry_final f ≡ entry_final g
  one_entry c e f g of_c of_e one =
      let work = its_work c f of_c in
      its_entry c f of_c work.0 work.1 ∙ sym (its_entry e g of_e work.0 (sym one ∙ work.1))

-- two cites whose names mean one work have one number and one state
pub names_share : NamesOfOneWorkShareNumberAndState
names_share bib task read c e f g of_c of_e one =
    let entry = one_entry read c e f g of_c of_e one in
    let first = its_state read c f of_c in
    let second = its_state read e g of_e in
    (first.0 ∙ ap (number_of (document_of read)) entry ∙ sym second.0, first.1 ∙ ap (state_of (states read).states) entry ∙ sym second.1)
