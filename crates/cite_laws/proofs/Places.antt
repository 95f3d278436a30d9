-- The numbers of cites are the places of their works in the bibliography.
use Rattle.std.proofs.Common.{◌≡◌, ℕ, ◌+◌, Bool, true, false, true≢false, ◌||◌, ◌==◌, nat_eq, eq-eqb, eqb-true, find, is_some, List, [], ◌∷◌, length, map, slice_get, option_map, Option, Some, None, refl, sym, ap, subst, ◌∙◌, arith}
use Rattle.std.specs.Str.{bytes_eq}
use Rattle.std.specs.List.{AllByRecursion, enumerate_from, flat_map, list_any, position_or_len}
use Rattle.std.proofs.lemmas.List.{length-map}
use Rattle.std.proofs.lemmas.List.Folds.{list_any-append}
use Rattle.std.proofs.lemmas.Option.{none-some, same_Some}
use Rattle.literature_entries.specs.EntriesData.{EntryData, Holding}
use Rattle.interop.specs.Library.{key_of}
use Rattle.rendering_entries.specs.Library.{answers_of}
use Rattle.rendering_style.specs.Styles.{Bibliography}
use Rattle.rendering_context.specs.Answering.{of_count}
use Rattle.rendering_context.specs.Cites.{CiteProperties}
use Rattle.rendering_context.specs.Contexts.{StyleContext}
use Rattle.driver_requests.specs.CitedEntries.{index_among, once}
use Rattle.driver_requests.specs.Order.{is_index_in}
use Rattle.driver_requests.specs.Requests.{Item, Request, cites_entry}
use Rattle.driver_rounds.specs.Documents.{number_of, order_in}
use Rattle.driver.specs.Finish.{item_of_entry, item_trees, key_at, keys_in}
use Rattle.driver.proofs.ItemsOrder.{found_some, is_cited}
use Rattle.driver.proofs.KeysFinals.{found_all}
use Rattle.driver.proofs.Members.{append_all, map_all, weaker_all}
use Rattle.driver_laws.proofs.EntriesListed.{items_order, keys_order}
use Rattle.driver_laws.proofs.EntriesOrdered.{order_has_the_cited}
use Rattle.cite_requests.specs.Cited.{is_among}
use Rattle.cite_requests.specs.Markers.{CitedWork}
use Rattle.cite_requests.specs.Requests.{OwnLocator, is_same_own, item_of, request_of, works_in}
use Rattle.cite.specs.Verdict.{Task}
use Rattle.cite_requests.specs.Works.{is_same}
use Rattle.cite_requests.proofs.KeyLists.{index_mapped, key_at_index, key_is}
use Rattle.cite_laws.specs.Printed.{NoneIsRefused, NumbersArePlaces, PrintedNumbersArePlaces, StandsOnceAt, all_prints, document_of}
use Rattle.cite_laws.proofs.PlacesListed.{made_there, member_there, number_there, only_there}
use Rattle.cite_laws.proofs.PrintedCites.{its_entry, its_key, its_state, works_among}

-- a work answers with its key
key_answered : (w : EntryData) → (answers_of w).key ≡ key_of w
key_answered (Holding key fs parents) = refl

or_true : (b : Bool) → (b || true) ≡ true
or_true true = refl
or_true false = refl

-- where a key is among those of works, a work passes each test that all works of that key pass
any_of_key : (k : List ℕ) (p : EntryData → Bool) → ((w : EntryData) → bytes_eq k (key_of w) ≡ true → p w ≡ true) → (ws : List EntryData) → is_among (map key_of ws) k ≡ true → list_any p ws ≡ true
any_of_key k p passes [] h = absurd (true≢false (sym h))
any_of_key k p passes (w ∷ ws) h = by (any_of_key k p passes ws) (bytes_eq k (key_of w)) refl h
  where
    by : (is_among (map key_of ws) k ≡ true → list_any p ws ≡ true) → (b : Bool) → bytes_eq k (key_of w) ≡ b → (b || list_any (bytes_eq k) (map key_of ws)) ≡ true → (p w || list_any p ws) ≡ true
    by more true is h = ap (λ (b : Bool). b || list_any p ws) (passes w is)
    by more false is h = ap (λ (b : Bool). p w || b) (more h) ∙ or_true (p w)

module _ (x : StyleContext) (cited : List EntryData) where
  abbrev keys : List (List ℕ)
  keys = map key_of cited

  -- an item has the index of its key
  abbrev IsKeyed : Item OwnLocator → Type 0
  IsKeyed i = (is_among keys i.entry.answers.key ≡ true) × (i.entry.index ≡ index_among bytes_eq keys i.entry.answers.key)

  item_keyed : (c : CitedWork) → is_among keys (key_of c.work) ≡ true → IsKeyed (item_of cited c)
  item_keyed c h =
      let key = key_answered c.work in
      (ap (is_among keys) key ∙ h, index_mapped key_of bytes_eq cited c.work ∙ ap (index_among bytes_eq keys) (sym key))

  items_keyed : (n : ℕ) (ms : List (List CitedWork)) → AllByRecursion (AllByRecursion (λ (c : CitedWork). is_among keys (key_of c.work) ≡ true)) ms
      → AllByRecursion IsKeyed (flat_map (λ (r : Request OwnLocator). r.items) (map (request_of x cited) (enumerate_from n ms)))
  items_keyed n [] h = tt
  items_keyed n (m ∷ ms) h =
      append_all IsKeyed (map (item_of cited) m) (flat_map (λ (r : Request OwnLocator). r.items) (map (request_of x cited) (enumerate_from (n + 1) ms)))
      (map_all IsKeyed (item_of cited) m (weaker_all (λ (c : CitedWork). is_among keys (key_of c.work) ≡ true) (λ (c : CitedWork). IsKeyed (item_of cited c)) item_keyed m h.0)) (items_keyed (n + 1) ms h.1)

  -- keys of one index are one
  one_key : (k l : List ℕ) → is_among keys k ≡ true → is_among keys l ≡ true → index_among bytes_eq keys k ≡ index_among bytes_eq keys l → k ≡ l
  one_key k l h g e = same_Some k l (sym (key_at_index keys k h) ∙ ap (slice_get (once bytes_eq keys)) e ∙ key_at_index keys l g)

  module _ (e : ℕ) where
    marker_cites : (cs : List CitedWork) → list_any (cites_entry e) (map (item_of cited) cs) ≡ list_any (λ w. index_among is_same cited w == e) (map (λ c. c.work) cs)
    marker_cites [] = refl
    marker_cites (c ∷ cs) = ap (λ (b : Bool). (index_among is_same cited c.work == e) || b) (marker_cites cs)

    -- the entries that items cite are those of the works
    items_cite : (n : ℕ) (ms : List (List CitedWork))
        → list_any (cites_entry e) (flat_map (λ (r : Request OwnLocator). r.items) (map (request_of x cited) (enumerate_from n ms))) ≡ list_any (λ w. index_among is_same cited w == e) (works_in ms)
    items_cite n [] = refl
    items_cite n (m ∷ ms) =
        list_any-append (cites_entry e) (map (item_of cited) m) (flat_map (λ (r : Request OwnLocator). r.items) (map (request_of x cited) (enumerate_from (n + 1) ms)))
        ∙ (λ i. marker_cites m i || items_cite (n + 1) ms i)
        ∙ sym (list_any-append (λ w. index_among is_same cited w == e) (map (λ c. c.work) m) (works_in ms))

  -- the work of a key has the index of the key
  index_of_key : (k : List ℕ) (w : EntryData) → bytes_eq k (key_of w) ≡ true → (index_among is_same cited w == index_among bytes_eq keys k) ≡ true
  index_of_key k w is = eq-eqb (index_among is_same cited w) (index_among bytes_eq keys k) (index_mapped key_of bytes_eq cited w ∙ ap (index_among bytes_eq keys) (sym (key_is k (key_of w) is)))

module _ {bib : List ℕ} {task : Task} (read : NoneIsRefused bib task) where
  abbrev works : List EntryData
  works = works_in read.file.markers

  abbrev index_of : List ℕ → ℕ
  index_of k = index_among bytes_eq (map key_of works) k

  abbrev items : List (Item OwnLocator)
  items = flat_map (λ (r : Request OwnLocator). r.items) (document_of read).requests

  abbrev order : List ℕ
  order = order_in (document_of read)

  all_keyed : AllByRecursion (IsKeyed task.context works) items
  all_keyed = items_keyed task.context works 1 read.file.markers (works_among read.file.markers)

  module _ (k : List ℕ) (among : is_among (map key_of works) k ≡ true) where
    item_there : list_any (cites_entry (index_of k)) items ≡ true
    item_there = items_cite task.context works (index_of k) 1 read.file.markers ∙ any_of_key k (λ w. index_among is_same works w == index_of k) (index_of_key task.context works k) works among

    in_order : is_index_in order (index_of k) ≡ true
    in_order = (order_has_the_cited OwnLocator (document_of read)).1 (index_of k) ∙ is_cited (index_of k) (document_of read) ∙ item_there

    -- the entry of a key stands in the order at its number, and there alone
    at_number : slice_get order (number_of (document_of read) (index_of k)) ≡ Some (index_of k)
    at_number =
        let first : 0 + position_or_len (nat_eq (index_of k)) order ≡ position_or_len (nat_eq (index_of k)) order = omega arith in
        ap (slice_get order) first ∙ number_there (index_of k) order in_order

    at_no_other : (n : ℕ) → slice_get order n ≡ Some (index_of k) → n ≡ number_of (document_of read) (index_of k)
    at_no_other n is =
        let place = only_there (index_of k) order n (order_has_the_cited OwnLocator (document_of read)).0 is in
        let first : position_or_len (nat_eq (index_of k)) order ≡ 0 + position_or_len (nat_eq (index_of k)) order = omega arith in
        place ∙ first

    -- its key is this one
    key_found : (o : Option (Item OwnLocator)) → find (cites_entry (index_of k)) items ≡ o → is_some o ≡ true → option_map (λ (i : Item OwnLocator). i.entry.answers.key) o ≡ Some k
    key_found None at some = absurd (true≢false (sym some))
    key_found (Some i) at some =
        let one = found_all (IsKeyed task.context works) (cites_entry (index_of k)) items i all_keyed at in
        ap (λ (l : List ℕ). Some l) (one_key task.context works i.entry.answers.key k one.0.0 among (sym one.0.1 ∙ eqb-true i.entry.index (index_of k) one.1))

    its_key_there : key_at (document_of read) (index_of k) ≡ Some k
    its_key_there = key_found (find (cites_entry (index_of k)) items) refl (found_some (cites_entry (index_of k)) items ∙ item_there)

  -- an entry whose key is this one is that of the key
  entry_found : (e : ℕ) (k : List ℕ) (o : Option (Item OwnLocator)) → find (cites_entry e) items ≡ o → option_map (λ (i : Item OwnLocator). i.entry.answers.key) o ≡ Some k → e ≡ index_of k
  entry_found e k None at is = absurd (none-some k is)
  entry_found e k (Some i) at is =
      let one = found_all (IsKeyed task.context works) (cites_entry e) items i all_keyed at in
      sym (eqb-true i.entry.index e one.1) ∙ one.0.1 ∙ ap index_of (same_Some i.entry.answers.key k is)

  entry_of_key : (e : ℕ) (k : List ℕ) → key_at (document_of read) e ≡ Some k → e ≡ index_of k
  entry_of_key e k is = entry_found e k (find (cites_entry e) items) refl is

  -- a key stands among those of the bibliography at the number of its entry, and there alone
  module _ (k : List ℕ) (among : is_among (map key_of works) k ≡ true) where
    key_there : (n : ℕ) → n ≡ number_of (document_of read) (index_of k) → slice_get (keys_in (document_of read)) n ≡ Some k
    key_there n is =
        made_there (key_at (document_of read)) order (keys_in (document_of read)) (keys_order OwnLocator (document_of read)) n (index_of k) (ap (slice_get order) is ∙ at_number k among) ∙ its_key_there k among

    key_alone : (n : ℕ) → slice_get (keys_in (document_of read)) n ≡ Some k → n ≡ number_of (document_of read) (index_of k)
    key_alone n is =
        let member = member_there (key_at (document_of read)) order (keys_in (document_of read)) (keys_order OwnLocator (document_of read)) n k is in
        at_no_other k among n (member.1 ∙ ap (λ (e : ℕ). Some e) (entry_of_key member.0 k member.2))

  stands_once : (b : Bibliography) (w : EntryData) → task.context.style.bibliography ≡ Some b → is_among (map key_of works) (key_of w) ≡ true → StandsOnceAt read b w (number_of (document_of read) (index_of (key_of w)))
  stands_once b w style among =
      let d = document_of read in
      let laid = items_order OwnLocator is_same_own d b style in
      let index : index_of (key_of w) ≡ index_among is_same works w = sym (index_mapped key_of bytes_eq works w) in
      record {
        key = λ n. (key_alone (key_of w) among n, key_there (key_of w) among n);
        item =
            made_there (item_of_entry d (all_prints read)) order (item_trees d (all_prints read)) laid.1 (number_of d (index_of (key_of w))) (index_of (key_of w)) (at_number (key_of w) among)
            ∙ ap (item_of_entry d (all_prints read)) index;
        count = laid.0 ∙ sym (length-map order (key_at d)) ∙ ap length (keys_order OwnLocator d) ∙ length-map (keys_in d) (λ (l : List ℕ). Some l);
      }

-- the numbers of cites are the places of their works in the bibliography
pub numbers_are_places : NumbersArePlaces
numbers_are_places bib task read b c f w style print means =
    let number = (its_state read c f print).0 in
    let entry = its_entry read c f print w means ∙ index_mapped key_of bytes_eq (works read) w in
    subst (StandsOnceAt read b w) (sym (number ∙ ap (number_of (document_of read)) entry)) (stands_once read b w style (its_key read c f print w means))

-- and what is printed of them is the place from one
pub printed_numbers_are_places : PrintedNumbersArePlaces
printed_numbers_are_places bib task read b c f w style print means = (
  f.properties.citation_number,
  numbers_are_places bib task read b c f w style print means,
  λ context same. ap (λ (p : CiteProperties). of_count (p.citation_number + 1)) same,
)
