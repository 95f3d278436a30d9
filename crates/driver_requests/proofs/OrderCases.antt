-- Cases of orders, numbers and positions, computed.
use Rattle.std.proofs.Common.{◌≡◌, ℕ, true, false, List, [], ◌∷◌, map, refl, Option, Some, None}
use Rattle.std.specs.Prelude.{nat_eq}
use Rattle.std.specs.Option.{option_map}
use Rattle.rendering_entries.specs.Answers.{Answers}
use Rattle.rendering_style.specs.Styles.{Bibliography}
use Rattle.rendering_context.specs.Contexts.{StyleContext}
use Rattle.driver_requests.specs.CitedEntries.{once, index_among, indices_among}
use Rattle.driver_requests.specs.Requests.{Item, Request, SpecificLocator, own, written, is_payload, is_specific_locator}
use Rattle.driver_requests.specs.Cites.{cites_of}
use Rattle.std.specs.List.{enumerate_from}
use Rattle.driver_requests.specs.Positions.{ibid_after, ibid_at, counts_at_first, with_previous}
use Rattle.driver_requests.specs.Order.{ordered, number_in, numbers_overflow}
use Rattle.rendering_taxonomy.specs.declared.cite.IbidState.{IbidState}
use Rattle.rendering_taxonomy.specs.declared.cite.IbidState.TheVariants as ibids
use Rattle.rendering_taxonomy.specs.declared.locator.Locator.{Locator}
use Rattle.rendering_taxonomy.specs.declared.locator.Locator.TheVariants as locators

each_once : once nat_eq (2 ∷ 1 ∷ 2 ∷ 0 ∷ 1 ∷ []) ≡ 2 ∷ 1 ∷ 0 ∷ []
each_once = refl

-- entries are numbers here: 7 and 9 are cited, 8 is not
indices : indices_among nat_eq (7 ∷ 9 ∷ 7 ∷ []) (8 ∷ 9 ∷ 9 ∷ 7 ∷ []) ≡ 1 ∷ 1 ∷ 0 ∷ []
indices = refl

index : index_among nat_eq (7 ∷ 9 ∷ 7 ∷ []) 9 ≡ 1
index = refl

wanted_first : (b : Bibliography) → ordered (Some b) (1 ∷ 1 ∷ 0 ∷ []) (0 ∷ 1 ∷ []) ≡ 1 ∷ 0 ∷ []
wanted_first b = refl

others_after : (b : Bibliography) → ordered (Some b) (2 ∷ []) (0 ∷ 1 ∷ 2 ∷ []) ≡ 2 ∷ 0 ∷ 1 ∷ []
others_after b = refl

not_listed : ordered None (1 ∷ []) (0 ∷ 1 ∷ []) ≡ 0 ∷ 1 ∷ []
not_listed = refl

after_offset : map (number_in 4 (1 ∷ 0 ∷ [])) (0 ∷ 1 ∷ []) ≡ 5 ∷ 4 ∷ []
after_offset = refl

greatest : numbers_overflow 2147483646 (0 ∷ []) ≡ false
greatest = refl

too_great : numbers_overflow 2147483646 (0 ∷ 1 ∷ []) ≡ true
too_great = refl

-- an item of an entry, of a part of it
item : Answers → ℕ → Option ℕ → Item ℕ
item a entry part = record {
  entry = record { index = entry; answers = a };
  locator = option_map (λ n. record { label = locators.Page; payload = own n }) part;
  is_hidden = false;
  purpose = None;
}

-- each in a request of its own
alone : List (Item ℕ) → List (List (Item ℕ))
alone items = map (λ i. i ∷ []) items

-- the ibid state of each after the one before it
positions : List (List (Item ℕ)) → List (List IbidState)
positions items = map (map (λ p. ibid_after nat_eq counts_at_first p.0 p.1)) (with_previous None items)

repeated :
    (a : Answers)
    → positions (alone (item a 0 (Some 12) ∷ item a 0 (Some 12) ∷ item a 0 (Some 23) ∷ item a 0 None ∷ item a 0 (Some 23) ∷ item a 0 (Some 23) ∷ item a 1 None ∷ []))
    ≡ (ibids.Different ∷ []) ∷ (ibids.Ibid ∷ []) ∷ (ibids.IbidWithLocator ∷ []) ∷ (ibids.Different ∷ []) ∷ (ibids.IbidWithLocator ∷ []) ∷ (ibids.Ibid ∷ []) ∷ (ibids.Different ∷ []) ∷ []
unfolding positions alone item
repeated a = refl

-- requests without items are passed over
passed_over : (a : Answers) → positions ((item a 0 None ∷ []) ∷ [] ∷ (item a 0 None ∷ []) ∷ []) ≡ (ibids.Different ∷ []) ∷ [] ∷ (ibids.Ibid ∷ []) ∷ []
unfolding positions alone item
passed_over a = refl

-- hidden items do not count before cites are disambiguated
hidden : (a : Answers) → positions ((record (item a 0 None) { is_hidden = true } ∷ item a 0 None ∷ []) ∷ []) ≡ (ibids.Different ∷ ibids.Different ∷ []) ∷ []
unfolding positions alone item
hidden a = refl

-- an item and its index in its request
placed : List (Item ℕ) → List (ℕ × Item ℕ)
placed items = enumerate_from 0 items

-- the ibid state of each after the one before it, where ibid follows requests of one item
after_one : List (List (Item ℕ)) → List (List IbidState)
after_one items = map (map (λ p. ibid_at nat_eq counts_at_first true p.1.0 p.0 p.1.1)) (with_previous None (map placed items))

-- after a request of several items none is repeated, and within one each may be
several :
    (a : Answers)
    → after_one ((item a 0 None ∷ item a 1 None ∷ []) ∷ (item a 1 None ∷ item a 1 None ∷ []) ∷ (item a 1 None ∷ []) ∷ (item a 1 None ∷ []) ∷ [])
    ≡ (ibids.Different ∷ ibids.Different ∷ []) ∷ (ibids.Different ∷ ibids.Ibid ∷ []) ∷ (ibids.Different ∷ []) ∷ (ibids.Ibid ∷ []) ∷ []
unfolding after_one placed item
several a = refl

-- a style in which so many requests are near
distant : StyleContext → ℕ → StyleContext
distant x n = record x { style = record x.style { citation = record x.style.citation { near_note_distance = n } } }

-- a note with one item
note : StyleContext → Answers → ℕ → ℕ → Request ℕ
note x a n entry = record { context = x; note_number = Some n; items = item a entry None ∷ [] }

notes : (x : StyleContext) (a : Answers)
    → map (map (λ c. c.first_note_number)) (cites_of (note x a 3 0 ∷ note x a 5 1 ∷ note x a 8 0 ∷ [])) ≡ (Some 3 ∷ []) ∷ (Some 5 ∷ []) ∷ (Some 3 ∷ []) ∷ []
unfolding note item
notes x a = refl

firsts : (x : StyleContext) (a : Answers)
    → map (map (λ c. c.is_first)) (cites_of (note x a 3 0 ∷ note x a 5 1 ∷ note x a 8 0 ∷ [])) ≡ (true ∷ []) ∷ (true ∷ []) ∷ (false ∷ []) ∷ []
unfolding note item
firsts x a = refl

-- a part of a work by a number of the caller's own
part : Locator → ℕ → SpecificLocator ℕ
part label n = record { label = label; payload = own n }

other_labels : is_specific_locator nat_eq (part locators.Page 12) (part locators.Chapter 12) ≡ false
unfolding part
other_labels = refl

other_payloads : is_payload nat_eq (own 12) (written (12 ∷ [])) ≡ false
other_payloads = refl

-- all requests before a note count for the distance, also those without items
near : (x : StyleContext) (a : Answers)
    → map (map (λ c. c.is_near_note)) (cites_of (note (distant x 1) a 1 0 ∷ record (note (distant x 1) a 2 0) { items = [] } ∷ note (distant x 1) a 3 0 ∷ note (distant x 1) a 4 0 ∷ []))
    ≡ (false ∷ []) ∷ [] ∷ (false ∷ []) ∷ (true ∷ []) ∷ []
unfolding note item distant
near x a = refl
