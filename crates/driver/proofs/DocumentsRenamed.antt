-- A document whose entries answer otherwise has the same cites, but for these answers.
use Rattle.std.proofs.Common.{◌≡◌, ℕ, ◌-◌, Bool, not, ◌&&◌, ◌||◌, List, [], ◌∷◌, ◌++◌, length, map, take, drop, is_some, refl, sym, ap, ◌∙◌, Option, Some, None}
use Rattle.std.specs.Prelude.{if◌then◌else◌, nat_eq, slice_get}
use Rattle.std.specs.List.{enumerate_from, flat_map, list_any}
use Rattle.std.specs.Option.{option_map, unwrap_or}
use Rattle.std.proofs.lemmas.List.{drop-map, length-map, map-append, take-map}
use Rattle.rendering_entries.specs.Answers.{Answers}
use Rattle.driver_requests.specs.CitedEntries.{once}
use Rattle.driver_requests.specs.Cites.{Cite, Numbered, cite_at, cites_after, cites_of, entry_of, first_note, is_cited_before, is_near, last_n, note_citing, request_cites}
use Rattle.driver_requests.specs.Order.{cited, number_in, ordered}
use Rattle.driver_requests.specs.Positions.{counts_at_first, ibid_of, place_of, with_previous}
use Rattle.driver_requests.specs.Requests.{Item, Request, cites_entry}
use Rattle.driver_rounds.specs.Documents.{Document, order_in}
use Rattle.driver_rounds.specs.FirstPrints.{adds_names, first_naming, numbered_after}
use Rattle.driver.specs.Stages.{has_purpose}
use Rattle.driver.proofs.Maps.{any_map, any_same, enumerate_map, map_map, placed}
use Rattle.driver.specs.Alike.{document_with, item_with, request_with}
use Rattle.driver.proofs.MapsTurned.{after, filter_map_map, map_turned, maps_turned, previous_map}

last_same : {A B : Type 0} (f : A → B) (n : ℕ) (xs : List A) → last_n n (map f xs) ≡ map f (last_n n xs)
last_same f n xs = ap (λ m. drop (m - n) (map f xs)) (length-map xs f) ∙ drop-map f (length xs - n) xs

module _ {P : Type 0} (answers : ℕ → Answers) where
  -- a cite of an entry that answers so
  abbrev pub cite_with : Cite P → Cite P
  cite_with c = record c { item = item_with answers c.item }

  -- the same with its number
  abbrev pub numbered_with : Numbered P → Numbered P
  numbered_with n = record n { cite = cite_with n.cite }

  request_same : (entry_index : ℕ) (r : Request P) → request_cites entry_index (request_with answers r) ≡ request_cites entry_index r
  request_same entry_index r = any_map (item_with answers) (cites_entry entry_index) r.items

  note_same : (entry_index : ℕ) (r : Request P) → note_citing entry_index (request_with answers r) ≡ note_citing entry_index r
  note_same entry_index r = ap (λ b. if b then r.note_number else None) (request_same entry_index r)

  first_same : (entry_index : ℕ) (earlier : List (Request P)) (r : Request P) → first_note entry_index (map (request_with answers) earlier) (request_with answers r) ≡ first_note entry_index earlier r
  first_same entry_index earlier r = ap (λ ns. option_map (λ n. unwrap_or (slice_get ns 0) n) r.note_number) (filter_map_map (request_with answers) (note_citing entry_index) (note_citing entry_index) (note_same entry_index) earlier)

  near_same : (entry_index : ℕ) (earlier : List (Request P)) (r : Request P) → is_near entry_index (map (request_with answers) earlier) (request_with answers r) ≡ is_near entry_index earlier r
  near_same entry_index earlier r =
      let distance = r.context.style.citation.near_note_distance in
      ap (λ b. is_some r.note_number && b)
      (ap (list_any (λ (q : Request P). is_some (note_citing entry_index q))) (last_same (request_with answers) distance earlier)
      ∙ any_map (request_with answers) (λ (q : Request P). is_some (note_citing entry_index q)) (last_n distance earlier)
      ∙ any_same (λ (q : Request P). is_some (note_citing entry_index (request_with answers q))) (λ (q : Request P). is_some (note_citing entry_index q)) (λ q. ap is_some (note_same entry_index q)) (last_n distance earlier))

  before_same : (entry_index : ℕ) (earlier : List (Request P)) (n : ℕ) (is : List (Item P)) → is_cited_before entry_index (map (request_with answers) earlier) (take n (map (item_with answers) is)) ≡ is_cited_before entry_index earlier (take n is)
  before_same entry_index earlier n is =
      let requests : list_any (request_cites entry_index) (map (request_with answers) earlier) ≡ list_any (request_cites entry_index) earlier =
      any_map (request_with answers) (request_cites entry_index) earlier ∙ any_same (λ (q : Request P). request_cites entry_index (request_with answers q)) (request_cites entry_index) (request_same entry_index) earlier in
      let items : list_any (cites_entry entry_index) (take n (map (item_with answers) is)) ≡ list_any (cites_entry entry_index) (take n is) = ap (list_any (cites_entry entry_index)) (take-map (item_with answers) n is) ∙ any_map (item_with answers) (cites_entry entry_index) (take n is) in
      λ k. requests k || items k

  cite_same : (earlier : List (Request P)) (r : Request P) (p : ℕ × Item P) → cite_at (map (request_with answers) earlier) (request_with answers r) (placed (item_with answers) p) ≡ cite_with (cite_at earlier r p)
  cite_same earlier r (index, i) = λ k. record {
    item = item_with answers i;
    index = index;
    context = r.context;
    note_number = r.note_number;
    first_note_number = first_same i.entry.index earlier r k;
    is_near_note = near_same i.entry.index earlier r k;
    is_first = not (before_same i.entry.index earlier index r.items k);
  }

  run_same : (earlier : List (Request P)) (r : Request P)
      → map (cite_at (map (request_with answers) earlier) (request_with answers r)) (enumerate_from 0 (map (item_with answers) r.items)) ≡ map cite_with (map (cite_at earlier r) (enumerate_from 0 r.items))
  run_same earlier r =
      ap (map (cite_at (map (request_with answers) earlier) (request_with answers r))) (enumerate_map (item_with answers) 0 r.items)
      ∙ map_turned (cite_at (map (request_with answers) earlier) (request_with answers r)) (placed (item_with answers)) cite_with (cite_at earlier r) (cite_same earlier r) (enumerate_from 0 r.items)

  cites_same : (earlier rs : List (Request P)) → cites_after (map (request_with answers) earlier) (map (request_with answers) rs) ≡ map (map cite_with) (cites_after earlier rs)
  cites_same earlier [] = refl
  cites_same earlier (r ∷ rs) =
      (λ k. run_same earlier r k ∷ cites_after (sym (map-append (request_with answers) earlier (r ∷ [])) k) (map (request_with answers) rs))
      ∙ ap (λ css. map cite_with (map (cite_at earlier r) (enumerate_from 0 r.items)) ∷ css) (cites_same (earlier ++ r ∷ []) rs)

  indices_same : (rs : List (Request P)) → flat_map (λ (r : Request P). map (λ (i : Item P). i.entry.index) r.items) (map (request_with answers) rs) ≡ flat_map (λ (r : Request P). map (λ (i : Item P). i.entry.index) r.items) rs
  indices_same [] = refl
  indices_same (r ∷ rs) = λ k. map_map (λ (i : Item P). i.entry.index) (item_with answers) r.items k ++ indices_same rs k

  -- the same entries are cited
  pub cited_same : (rs : List (Request P)) → cited (map (request_with answers) rs) ≡ cited rs
  cited_same rs = ap (once nat_eq) (indices_same rs)

  -- and names are added alike
  pub adds_same : (rs : List (Request P)) → adds_names (map (request_with answers) rs) ≡ adds_names rs
  adds_same [] = refl
  adds_same (r ∷ rs) = refl

  pub naming_same : (rs : List (Request P)) → first_naming (map (request_with answers) rs) ≡ first_naming rs
  naming_same [] = refl
  naming_same (r ∷ rs) = refl

  -- the same items have a purpose
  pub purpose_same : (r : Request P) → has_purpose (request_with answers r) ≡ has_purpose r
  purpose_same r = any_map (item_with answers) (λ (i : Item P). is_some i.purpose) r.items

  module _ (same : P → P → Bool) (d : Document P) where
    -- the order is the same
    pub order_same : order_in (document_with answers d) ≡ order_in d
    order_same = ap (ordered d.bibliography_context.style.bibliography d.wanted) (cited_same d.requests)

    numbered_one : (p : Option (Cite P) × Cite P) → numbered_after same (document_with answers d) (after cite_with p) ≡ numbered_with (numbered_after same d p)
    numbered_one (None, c) = λ k. record { cite = cite_with c; number = number_in d.offset (order_same k) (entry_of c); ibid = ibid_of same counts_at_first None c; first_names = [] }
    numbered_one (Some l, c) = λ k. record { cite = cite_with c; number = number_in d.offset (order_same k) (entry_of c); ibid = ibid_of same counts_at_first (Some (place_of l)) c; first_names = [] }

    -- cites have the same numbers
    pub numbered_same : map (map (numbered_after same (document_with answers d))) (with_previous None (cites_of (document_with answers d).requests)) ≡ map (map numbered_with) (map (map (numbered_after same d)) (with_previous None (cites_of d.requests)))
    numbered_same =
        ap (λ css. map (map (numbered_after same (document_with answers d))) (with_previous None css)) (cites_same [] d.requests)
        ∙ ap (map (map (numbered_after same (document_with answers d)))) (previous_map cite_with None (cites_of d.requests))
        ∙ maps_turned (numbered_after same (document_with answers d)) (after cite_with) numbered_with (numbered_after same d) numbered_one (with_previous None (cites_of d.requests))
