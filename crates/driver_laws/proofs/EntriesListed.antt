-- Each cited entry has an item in the bibliography, and a key.
use Rattle.std.proofs.Common.{◌≡◌, Bool, true, true≢false, is_some, List, [], ◌∷◌, length, map, refl, sym, ap, ◌∙◌, Option, Some, None}
use Rattle.std.specs.Prelude.{filter_map, find}
use Rattle.std.specs.List.{AllByRecursion, cons_option, flat_map, list_any}
use Rattle.std.specs.Option.{option_and_then}
use Rattle.std.proofs.lemmas.List.{length-map}
use Rattle.rendering_style.specs.Styles.{Bibliography}
use Rattle.driver_requests.specs.Requests.{Item, Request, cites_entry}
use Rattle.driver_rounds.specs.Documents.{Document, order_in}
use Rattle.driver.specs.Finish.{is_final_of, item_of_cite, item_of_entry, item_trees, key_at, keys_in}
use Rattle.driver.specs.Stages.{finals_of}
use Rattle.driver.proofs.ItemsListed.{items_long}
use Rattle.driver.proofs.ItemsOrder.{final_there, found_some, item_there, map_some, order_cited}
use Rattle.driver.proofs.Members.{weaker_all}
use Rattle.driver_laws.specs.Laws.{ItemsAreTheOrder, KeysAreTheOrder}

and_then_some : {A B : Type 0} (f : A → Option B) (o : Option A) → ((a : A) → is_some (f a) ≡ true) → is_some o ≡ true → is_some (option_and_then f o) ≡ true
and_then_some f None e h = absurd (true≢false (sym h))
and_then_some f (Some a) e h = e a

-- what is made of each member is there, if it is of each of them
all_some : {A B : Type 0} (f : A → Option B) (xs : List A) → AllByRecursion (λ x. is_some (f x) ≡ true) xs → map f xs ≡ map (λ y. Some y) (filter_map f xs)
all_some f [] h = refl
all_some {A} {B} f (x ∷ xs) h = by_value (f x) refl (all_some f xs h.1)
  where
    by_value : (o : Option B) → f x ≡ o → map f xs ≡ map (λ y. Some y) (filter_map f xs) → map f (x ∷ xs) ≡ map (λ y. Some y) (filter_map f (x ∷ xs))
    by_value None e others = absurd (true≢false (sym h.0 ∙ ap is_some e))
    by_value (Some y) e others = (λ k. e k ∷ others k) ∙ sym (ap (λ o. map (λ z. Some z) (cons_option o (filter_map f xs))) e)

module _ {P : Type 0} (d : Document P) where
  -- there is a key for each entry of the order
  pub keys_there : map (key_at d) (order_in d) ≡ map (λ key. Some key) (keys_in d)
  keys_there =
      all_some (key_at d) (order_in d)
      (weaker_all (λ entry_index. list_any (cites_entry entry_index) (flat_map (λ (r : Request P). r.items) d.requests) ≡ true) (λ entry_index. is_some (key_at d entry_index) ≡ true)
      (λ entry_index h. map_some (λ (i : Item P). i.entry.answers.key) (find (cites_entry entry_index) (flat_map (λ (r : Request P). r.items) d.requests)) ∙ found_some (cites_entry entry_index) (flat_map (λ (r : Request P). r.items) d.requests) ∙ h) (order_in d) (order_cited d))

  -- and where the style has a bibliography an item
  pub items_there : (same : P → P → Bool) (b : Bibliography) → d.bibliography_context.style.bibliography ≡ Some b → map (item_of_entry d (finals_of same d)) (order_in d) ≡ map (λ tree. Some tree) (item_trees d (finals_of same d))
  items_there same b e =
      all_some (item_of_entry d (finals_of same d)) (order_in d)
      (weaker_all (λ entry_index. list_any (cites_entry entry_index) (flat_map (λ (r : Request P). r.items) d.requests) ≡ true) (λ entry_index. is_some (item_of_entry d (finals_of same d) entry_index) ≡ true)
      (λ entry_index h. and_then_some (item_of_cite d) (find (is_final_of entry_index) (finals_of same d)) (λ f. item_there d same b f e) (final_there d same entry_index h)) (order_in d) (order_cited d))

-- where the style has a bibliography, this has one item for each cited entry, in their order
pub items_order : (P : Type 0) → ItemsAreTheOrder P
items_order P = λ same d b e.
    let there = items_there d same b e in
    let trees = item_trees d (finals_of same d) in
    let long : length (order_in d) ≡ length trees = sym (length-map (order_in d) (item_of_entry d (finals_of same d))) ∙ ap length there ∙ length-map trees (λ tree. Some tree) in
    (items_long b trees ∙ sym long, there)

-- there is one key for each cited entry, in their order
pub keys_order : (P : Type 0) → KeysAreTheOrder P
keys_order P = λ d. keys_there d
