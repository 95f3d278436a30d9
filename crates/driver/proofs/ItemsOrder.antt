-- Each cited entry is cited by an item and has a cite in the final order, by which the bibliography prints it.
use Rattle.std.proofs.Common.{◌≡◌, ℕ, ◌+◌, Bool, true, false, cond, ◌||◌, nat_eq, eq-eqb, is_some, List, [], ◌∷◌, ◌++◌, append_assoc, map, refl, sym, ap, ◌∙◌, Option, Some, None}
use Rattle.std.specs.Prelude.{◌==◌, find}
use Rattle.std.specs.Cmp.{nat_eq_equiv}
use Rattle.std.specs.List.{AllByRecursion, enumerate_from, flat_map, last_or, list_any, zip}
use Rattle.std.specs.Option.{option_map}
use Rattle.std.proofs.lemmas.List.Folds.{list_any-append}
use Rattle.rendering_style.specs.Styles.{Bibliography}
use Rattle.rendering.specs.Purposes.{bibliography}
use Rattle.driver_requests.specs.Cites.{Cite, cite_at, cites_after, entry_of}
use Rattle.driver_requests.specs.Order.{cited, is_index_in}
use Rattle.driver_requests.specs.Positions.{with_previous}
use Rattle.driver_requests.specs.Requests.{Item, Request, cites_entry}
use Rattle.driver_requests.proofs.Once.{once-any}
use Rattle.driver_disambiguation.specs.Rounds.{Disambiguation}
use Rattle.driver_blocks.specs.Blocks.{Gathered}
use Rattle.driver_blocks.specs.Runs.{Arranged}
use Rattle.driver_rounds.specs.Documents.{Document, order_in}
use Rattle.driver.specs.Finish.{is_final_of, item_of_cite, item_properties, printed_item}
use Rattle.driver.specs.Stages.{finals_of, Final, arranged_for, final, gathered_by, has_purpose}
use Rattle.driver_rounds.specs.FirstPrints.{FirstPrint, disambiguated_in, entry_of_first, first_print, first_prints_in, flattened, named_after}
use Rattle.driver.proofs.ArrangedCount.{arranged_any}
use Rattle.driver.proofs.DocumentsOrder.{ordered_has}
use Rattle.driver.proofs.Maps.{any_map, any_same}
use Rattle.driver.proofs.Members.{weaker_all}

any_second : {A B : Type 0} (p : B → Bool) (last : A) (f : B → A) (xs : List B) → list_any (λ (q : A × B). p q.1) (zip (last ∷ map f xs) xs) ≡ list_any p xs
any_second p last f [] = refl
any_second p last f (x ∷ xs) = ap (λ b. p x || b) (any_second p (f x) f xs)

any_numbered : {A : Type 0} (p : A → Bool) (n : ℕ) (xs : List A) → list_any (λ (q : ℕ × A). p q.1) (enumerate_from n xs) ≡ list_any p xs
any_numbered p n [] = refl
any_numbered p n (x ∷ xs) = ap (λ b. p x || b) (any_numbered p (n + 1) xs)

-- two lists one after the other
any_both : {A B : Type 0} (p : A → Bool) (q : B → Bool) (xs ys : List A) (us vs : List B) → list_any p xs ≡ list_any q us → list_any p ys ≡ list_any q vs → list_any p (xs ++ ys) ≡ list_any q (us ++ vs)
any_both p q xs ys us vs e f = list_any-append p xs ys ∙ (λ k. e k || f k) ∙ sym (list_any-append q us vs)

eq_turned : (m n : ℕ) → nat_eq m n ≡ nat_eq n m
eq_turned m n = nat_eq_equiv.symm m n

module _ {P : Type 0} (same : P → P → Bool) (d : Document P) (t : Disambiguation) (entry_index : ℕ) where
  -- whether a cite is of the entry at the index
  abbrev is_first_of : FirstPrint P → Bool
  is_first_of b = entry_of_first b == entry_index

  item_cited : (earlier : List (Request P)) (r : Request P) → list_any (λ (c : Cite P). entry_of c == entry_index) (map (cite_at earlier r) (enumerate_from 0 r.items)) ≡ list_any (cites_entry entry_index) r.items
  item_cited earlier r =
      any_map (cite_at earlier r) (λ (c : Cite P). entry_of c == entry_index) (enumerate_from 0 r.items)
      ∙ any_same (λ p. entry_of (cite_at earlier r p) == entry_index) (λ (p : ℕ × Item P). cites_entry entry_index p.1) at (enumerate_from 0 r.items)
      ∙ any_numbered (cites_entry entry_index) 0 r.items
    where
      at : (p : ℕ × Item P) → (entry_of (cite_at earlier r p) == entry_index) ≡ cites_entry entry_index p.1
      at (index, i) = refl

  printed_cited : (last : Option (Cite P)) (cs : List (Cite P)) → list_any is_first_of (map (λ p. first_print (named_after same d p)) (zip (last ∷ map (λ c. Some c) cs) cs)) ≡ list_any (λ (c : Cite P). entry_of c == entry_index) cs
  printed_cited last cs =
      let pairs = zip (last ∷ map (λ c. Some c) cs) cs in
      any_map (λ p. first_print (named_after same d p)) is_first_of pairs
      ∙ any_same (λ p. is_first_of (first_print (named_after same d p))) (λ (p : Option (Cite P) × Cite P). entry_of p.1 == entry_index) at pairs
      ∙ any_second (λ (c : Cite P). entry_of c == entry_index) last (λ c. Some c) cs
    where
      at : (p : Option (Cite P) × Cite P) → is_first_of (first_print (named_after same d p)) ≡ (entry_of p.1 == entry_index)
      at (last, c) = refl

  arranged_cited : (r : Request P) (bs : List (FirstPrint P)) → list_any (λ (a : Arranged (FirstPrint P)). is_first_of a.cite.cite) (arranged_for t (r, bs)) ≡ list_any is_first_of bs
  arranged_cited r bs =
      arranged_any r.context.style.citation (has_purpose r) (λ (x : Gathered (FirstPrint P)). is_first_of x.cite) (map (gathered_by t) bs)
      ∙ any_map (gathered_by t) (λ (x : Gathered (FirstPrint P)). is_first_of x.cite) bs

  final_cited : (last : Option (Arranged (FirstPrint P))) (xs : List (Arranged (FirstPrint P)))
      → list_any (is_final_of entry_index) (map (final same t) (zip (last ∷ map (λ a. Some a) xs) xs)) ≡ list_any (λ (a : Arranged (FirstPrint P)). is_first_of a.cite.cite) xs
  final_cited last xs =
      let pairs = zip (last ∷ map (λ a. Some a) xs) xs in
      any_map (final same t) (is_final_of entry_index) pairs
      ∙ any_same (λ p. is_final_of entry_index (final same t p)) (λ (p : Option (Arranged (FirstPrint P)) × Arranged (FirstPrint P)). is_first_of p.1.cite.cite) at pairs
      ∙ any_second (λ (a : Arranged (FirstPrint P)). is_first_of a.cite.cite) last (λ a. Some a) xs
    where
      at : (p : Option (Arranged (FirstPrint P)) × Arranged (FirstPrint P)) → is_final_of entry_index (final same t p) ≡ is_first_of p.1.cite.cite
      at (last, a) = refl

  -- an entry has a cite in the final order where an item cites it
  all_cited : (earlier : List (Request P)) (before : Option (Cite P)) (last : Option (Arranged (FirstPrint P))) (rs : List (Request P))
      → list_any (is_final_of entry_index) (flattened (map (map (final same t)) (with_previous last (map (arranged_for t) (zip rs (map (map (λ p. first_print (named_after same d p))) (with_previous before (cites_after earlier rs))))))))
      ≡ list_any (cites_entry entry_index) (flat_map (λ (r : Request P). r.items) rs)
  all_cited earlier before last [] = refl
  all_cited earlier before last (r ∷ rs) =
      let cs = map (cite_at earlier r) (enumerate_from 0 r.items) in
      let bs = map (λ p. first_print (named_after same d p)) (zip (before ∷ map (λ c. Some c) cs) cs) in
      let xs = arranged_for t (r, bs) in
      let fs = map (final same t) (zip (last ∷ map (λ a. Some a) xs) xs) in
      let rest = flattened (map (map (final same t)) (with_previous (last_or last xs) (map (arranged_for t) (zip rs (map (map (λ p. first_print (named_after same d p))) (with_previous (last_or before cs) (cites_after (earlier ++ r ∷ []) rs))))))) in
      any_both (is_final_of entry_index) (cites_entry entry_index) fs rest r.items (flat_map (λ (q : Request P). q.items) rs) (final_cited last xs ∙ arranged_cited r bs ∙ printed_cited before cs ∙ item_cited earlier r) (all_cited (earlier ++ r ∷ []) (last_or before cs) (last_or last xs) rs)

module _ {P : Type 0} (entry_index : ℕ) where
  items_indices : (rs : List (Request P)) → list_any (nat_eq entry_index) (flat_map (λ (r : Request P). map (λ (i : Item P). i.entry.index) r.items) rs) ≡ list_any (cites_entry entry_index) (flat_map (λ (r : Request P). r.items) rs)
  items_indices [] = refl
  items_indices (r ∷ rs) =
      list_any-append (nat_eq entry_index) (map (λ (i : Item P). i.entry.index) r.items) (flat_map (λ (q : Request P). map (λ (i : Item P). i.entry.index) q.items) rs)
      ∙ (λ k. (any_map (λ (i : Item P). i.entry.index) (nat_eq entry_index) r.items ∙ any_same (λ (i : Item P). nat_eq entry_index i.entry.index) (cites_entry entry_index) (λ i. eq_turned entry_index i.entry.index) r.items) k || items_indices rs k)
      ∙ sym (list_any-append (cites_entry entry_index) r.items (flat_map (λ (q : Request P). q.items) rs))

  -- an entry is cited where an item cites it
  pub is_cited : (d : Document P) → is_index_in (cited d.requests) entry_index ≡ list_any (cites_entry entry_index) (flat_map (λ (r : Request P). r.items) d.requests)
  is_cited d = once-any nat_eq_equiv entry_index (flat_map (λ (r : Request P). map (λ (i : Item P). i.entry.index) r.items) d.requests) ∙ items_indices d.requests

pub found_some : {A : Type 0} (p : A → Bool) (xs : List A) → is_some (find p xs) ≡ list_any p xs
found_some p [] = refl
found_some p (x ∷ xs) = by_value (p x) refl (found_some p xs)
  where
    by_value : (b : Bool) → p x ≡ b → is_some (find p xs) ≡ list_any p xs → is_some (find p (x ∷ xs)) ≡ (p x || list_any p xs)
    by_value true e others = ap (λ b. is_some (cond b (Some x) (find p xs))) e ∙ sym (ap (λ b. b || list_any p xs) e)
    by_value false e others = ap (λ b. is_some (cond b (Some x) (find p xs))) e ∙ others ∙ sym (ap (λ b. b || list_any p xs) e)

pub map_some : {A B : Type 0} (f : A → B) (o : Option A) → is_some (option_map f o) ≡ is_some o
map_some f None = refl
map_some f (Some x) = refl

-- each member is among the members
themselves : (xs ys : List ℕ) → AllByRecursion (λ x. is_index_in (xs ++ ys) x ≡ true) ys
themselves xs [] = tt
themselves xs (y ∷ ys) = (here, moved (themselves (xs ++ y ∷ []) ys))
  where
    here : is_index_in (xs ++ y ∷ ys) y ≡ true
    here = list_any-append (nat_eq y) xs (y ∷ ys) ∙ or_true (list_any (nat_eq y) xs) (nat_eq y y) (list_any (nat_eq y) ys) (eq-eqb y y refl)
      where
        or_true : (a b c : Bool) → b ≡ true → (a || (b || c)) ≡ true
        or_true true b c e = refl
        or_true false b c e = ap (λ v. v || c) e

    moved : AllByRecursion (λ x. is_index_in ((xs ++ y ∷ []) ++ ys) x ≡ true) ys → AllByRecursion (λ x. is_index_in (xs ++ y ∷ ys) x ≡ true) ys
    moved others = weaker_all (λ x. is_index_in ((xs ++ y ∷ []) ++ ys) x ≡ true) (λ x. is_index_in (xs ++ y ∷ ys) x ≡ true) (λ x g. ap (λ zs. is_index_in zs x) (sym (append_assoc xs (y ∷ []) ys)) ∙ g) ys others

module _ {P : Type 0} (d : Document P) where
  -- each entry of the order is cited by an item
  pub order_cited : AllByRecursion (λ entry_index. list_any (cites_entry entry_index) (flat_map (λ (r : Request P). r.items) d.requests) ≡ true) (order_in d)
  order_cited =
      weaker_all (λ entry_index. is_index_in (order_in d) entry_index ≡ true) (λ entry_index. list_any (cites_entry entry_index) (flat_map (λ (r : Request P). r.items) d.requests) ≡ true)
      (λ entry_index h. sym (is_cited entry_index d) ∙ sym (ordered_has d.bibliography_context.style.bibliography d.wanted (cited d.requests) entry_index) ∙ h) (order_in d) (themselves [] (order_in d))

  module _ (same : P → P → Bool) where
    -- each of them has a cite in the final order
    pub final_there : (entry_index : ℕ) → list_any (cites_entry entry_index) (flat_map (λ (r : Request P). r.items) d.requests) ≡ true → is_some (find (is_final_of entry_index) (finals_of same d)) ≡ true
    final_there entry_index h =
        found_some (is_final_of entry_index) (finals_of same d)
        ∙ all_cited same d (disambiguated_in d (first_prints_in same d)) entry_index [] None None d.requests
        ∙ h

    pub item_there : (b : Bibliography) (f : Final P) → d.bibliography_context.style.bibliography ≡ Some b → is_some (item_of_cite d f) ≡ true
    item_there b f e =
        map_some printed_item (bibliography d.bibliography_context f.arranged.cite.cite.numbered.cite.item.entry.answers (item_properties f) None)
        ∙ map_some _ d.bibliography_context.style.bibliography
        ∙ ap is_some e
