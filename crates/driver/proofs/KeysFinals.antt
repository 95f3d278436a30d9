-- The entries that a bibliography prints by their first cites have the keys of the cited entries, in the order of these.
use Rattle.std.proofs.Common.{◌≡◌, ℕ, Bool, true, false, true≢false, cond, eqb-true, find, is_some, unwrap_or, List, [], ◌∷◌, ◌++◌, map, refl, sym, ap, subst, ◌∙◌, Option, Some, None}
use Rattle.std.specs.Prelude.{filter_map}
use Rattle.std.specs.List.{AllByRecursion, cons_option, enumerate_from, flat_map, list_any}
use Rattle.std.specs.Option.{option_and_then, option_map}
use Rattle.rendering_entries.specs.Answers.{Answers}
use Rattle.rendering_style.specs.Styles.{Bibliography}
use Rattle.driver_bibliography.specs.Substitution.{Printed}
use Rattle.driver_requests.specs.Cites.{Cite, cite_at, cites_after}
use Rattle.driver_requests.specs.Requests.{Item, Request, cites_entry}
use Rattle.driver_blocks.specs.Runs.{Arranged}
use Rattle.driver_rounds.specs.Documents.{Document, order_in}
use Rattle.driver.specs.Finish.{is_final_of, item_of_cite, key_at, keys_in}
use Rattle.driver.specs.Stages.{finals_of, Final, cite_of, final, finals_in, first_print_of}
use Rattle.driver_rounds.specs.FirstPrints.{FirstPrint, disambiguated_in, first_print, first_prints_in, named_after}
use Rattle.driver.proofs.FinalPrintsOf.{finals_all, prints_all}
use Rattle.driver.proofs.ItemsOrder.{final_there, found_some, item_there, order_cited}
use Rattle.driver.proofs.Members.{both_all, enumerate_all, flat_all, map_all, weaker_all}

-- what holds of all members holds of the one that is found, and this passes
pub found_all : {A : Type 0} (Q : A → Type 0) (p : A → Bool) (xs : List A) (x : A) → AllByRecursion Q xs → find p xs ≡ Some x → Q x × (p x ≡ true)
found_all Q p [] x h e = absurd (true≢false (sym (ap is_some e)))
found_all {A} Q p (y ∷ ys) x h e = by_value (p y) refl (found_all Q p ys x h.1)
  where
    by_value : (b : Bool) → p y ≡ b → (find p ys ≡ Some x → Q x × (p x ≡ true)) → Q x × (p x ≡ true)
    by_value true f others =
        let is : Some y ≡ Some x = sym (ap (λ b. cond b (Some y) (find p ys)) f) ∙ e in
        let one : y ≡ x = ap (λ o. unwrap_or o y) is in
        (subst Q one h.0, ap p (sym one) ∙ f)
    by_value false f others = others (sym (ap (λ b. cond b (Some y) (find p ys)) f) ∙ e)

-- what is made of each member, where two functions agree
pub filter_map_same : {A B : Type 0} (f g : A → Option B) (xs : List A) → AllByRecursion (λ x. f x ≡ g x) xs → filter_map f xs ≡ filter_map g xs
filter_map_same f g [] h = refl
filter_map_same f g (x ∷ xs) h = λ k. cons_option (h.0 k) (filter_map_same f g xs h.1 k)

-- Where a table says what the entry at each index answers.
module _ {P : Type 0} (d : Document P) (table : ℕ → Option Answers) where
  -- an item answers so
  abbrev pub IsInTable : Item P → Type 0
  IsInTable i = table i.entry.index ≡ Some i.entry.answers

  -- the key of the entry of a cite, where the bibliography prints it
  abbrev pub key_final : Final P → Option (List ℕ)
  key_final f = option_map (λ (t : Printed). (cite_of f).item.entry.answers.key) (item_of_cite d f)

  module _ (h : AllByRecursion IsInTable (flat_map (λ (r : Request P). r.items) d.requests)) where
    key_of_item : (entry_index : ℕ) (o : Option (Item P)) → find (cites_entry entry_index) (flat_map (λ (r : Request P). r.items) d.requests) ≡ o → is_some o ≡ true → option_map (λ (i : Item P). i.entry.answers.key) o ≡ option_map (λ (a : Answers). a.key) (table entry_index)
    key_of_item entry_index None e some = absurd (true≢false (sym some))
    key_of_item entry_index (Some i) e some =
        let found = found_all IsInTable (cites_entry entry_index) (flat_map (λ (r : Request P). r.items) d.requests) i h e in
        sym (ap (option_map (λ (a : Answers). a.key)) (ap table (sym (eqb-true i.entry.index entry_index found.1)) ∙ found.0))

    module _ (same : P → P → Bool) where
      -- a cite is of an entry in the table
      abbrev OfTable : Cite P → Type 0
      OfTable c = IsInTable c.item

      cites_there : (earlier rs : List (Request P)) → AllByRecursion (AllByRecursion IsInTable) (map (λ (r : Request P). r.items) rs) → AllByRecursion (AllByRecursion OfTable) (cites_after earlier rs)
      cites_there earlier [] k = tt
      cites_there earlier (r ∷ rs) k = (
        map_all OfTable (cite_at earlier r) (enumerate_from 0 r.items) (weaker_all (λ (p : ℕ × Item P). IsInTable p.1) (λ p. OfTable (cite_at earlier r p)) at (enumerate_from 0 r.items) (enumerate_all IsInTable 0 r.items k.0)),
        cites_there (earlier ++ r ∷ []) rs k.1,
      )
        where
          at : (p : ℕ × Item P) → IsInTable p.1 → OfTable (cite_at earlier r p)
          at (index, i) g = g

      requests_there : (rs : List (Request P)) → AllByRecursion IsInTable (flat_map (λ (r : Request P). r.items) rs) → AllByRecursion (AllByRecursion IsInTable) (map (λ (r : Request P). r.items) rs)
      requests_there [] k = tt
      requests_there (r ∷ rs) k = let two = both_all IsInTable r.items (flat_map (λ (q : Request P). q.items) rs) k in (two.0, requests_there rs two.1)

      -- the first print of a cite of an entry in the table
      abbrev FirstOfTable : FirstPrint P → Type 0
      FirstOfTable b = OfTable b.numbered.cite

      -- and a cite in its final order
      abbrev FinalOfTable : Final P → Type 0
      FinalOfTable f = OfTable (cite_of f)

      prints_there : AllByRecursion (AllByRecursion FirstOfTable) (first_prints_in same d)
      prints_there = prints_all same d OfTable FirstOfTable at (cites_there [] d.requests (requests_there d.requests h))
        where
          at : (p : Option (Cite P) × Cite P) → OfTable p.1 → FirstOfTable (first_print (named_after same d p))
          at (last, c) g = g

      finals_there : AllByRecursion FinalOfTable (finals_of same d)
      finals_there =
          let t = disambiguated_in d (first_prints_in same d) in
          flat_all FinalOfTable (λ fs. fs) (finals_in same d (first_prints_in same d) t) (finals_all same t FirstOfTable FinalOfTable at d.requests (first_prints_in same d) prints_there)
        where
          at : (p : Option (Arranged (FirstPrint P)) × Arranged (FirstPrint P)) → FirstOfTable (first_print_of p.1) → FinalOfTable (final same (disambiguated_in d (first_prints_in same d)) p)
          at (last, a) g = g

      key_of_final : (b : Bibliography) → d.bibliography_context.style.bibliography ≡ Some b → (entry_index : ℕ) (o : Option (Final P)) → find (is_final_of entry_index) (finals_of same d) ≡ o → is_some o ≡ true → option_and_then key_final o ≡ option_map (λ (a : Answers). a.key) (table entry_index)
      key_of_final b is entry_index None e some = absurd (true≢false (sym some))
      key_of_final b is entry_index (Some f) e some =
          let found = found_all FinalOfTable (is_final_of entry_index) (finals_of same d) f finals_there e in
          key_there f (item_of_cite d f) (item_there d same b f is) ∙ sym (ap (option_map (λ (a : Answers). a.key)) (ap table (sym (eqb-true (cite_of f).item.entry.index entry_index found.1)) ∙ found.0))
        where
          key_there : (f : Final P) (o : Option Printed) → is_some o ≡ true → option_map (λ (t : Printed). (cite_of f).item.entry.answers.key) o ≡ Some (cite_of f).item.entry.answers.key
          key_there f None k = absurd (true≢false (sym k))
          key_there f (Some t) k = refl

      -- the keys of the entries that the bibliography prints
      pub keys_final : (b : Bibliography) → d.bibliography_context.style.bibliography ≡ Some b → filter_map (λ entry_index. option_and_then key_final (find (is_final_of entry_index) (finals_of same d))) (order_in d) ≡ keys_in d
      keys_final b is =
          filter_map_same (λ entry_index. option_and_then key_final (find (is_final_of entry_index) (finals_of same d))) (key_at d) (order_in d)
          (weaker_all (λ entry_index. list_any (cites_entry entry_index) (flat_map (λ (r : Request P). r.items) d.requests) ≡ true) (λ entry_index. option_and_then key_final (find (is_final_of entry_index) (finals_of same d)) ≡ key_at d entry_index)
          (λ entry_index k. key_of_final b is entry_index (find (is_final_of entry_index) (finals_of same d)) refl (final_there d same entry_index k)
          ∙ sym (key_of_item entry_index (find (cites_entry entry_index) (flat_map (λ (r : Request P). r.items) d.requests)) refl (found_some (cites_entry entry_index) (flat_map (λ (r : Request P). r.items) d.requests) ∙ k))) (order_in d) (order_cited d))
