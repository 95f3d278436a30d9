-- Requests with their items in the order of sort keys.
use Rattle.std.proofs.Common.{◌≡◌, ℕ, ◌+◌, ◌<◌, Bool, true, false, None, List, [], ◌∷◌, ◌++◌, length, map, refl, sym, ap, ◌∙◌, arith}
use Rattle.std.proofs.lemmas.List.{length-map}
use Rattle.std.proofs.lemmas.Simd.{map-map}
use Rattle.std.specs.List.{enumerate_from}
use Rattle.std.specs.Option.{option_map}
use Rattle.driver_requests.specs.Requests.{plain_locator}
use Rattle.driver_requests.specs.Views.{Parts, context_of, entries_in, item_from, parts_of, request_view}
use Rattle.driver_requests.specs.declared.request.CitationRequest.{CitationRequest}
use Rattle.rendering.specs.Purposes.{context_of as printed_from}
use Rattle.rendering_context.specs.Cites.{CiteProperties}
use Rattle.rendering_context.specs.Contexts.{StyleContext}
use Rattle.rendering_entries.specs.Answers.{Answers}
use Rattle.rendering_style.specs.Styles.{Style}
use Rattle.driver_order.specs.EntryKeys.{inherited, keys_of, keys_with, part_by, sorting_properties}
use Rattle.driver_order.specs.Order.{entries_in_order, entry_keys}
use Rattle.driver_order.specs.Sorted.{RequestParts, cited_in, item_keys, number_among, request_from, request_in_order, request_parts, requests_in_order}
use Rattle.driver_order.proofs.OrderedKeys.{few_stay, unordered}

-- the entries that requests cite
pub cited_is : {T P : Type 0} (rs : List (CitationRequest T P)) → cited_in (map request_parts rs) ≡ entries_in rs
cited_is [] = refl
cited_is {T} {P} (r ∷ rs) = λ i. map-map (λ (p : Parts T P). p.entry) parts_of r.items.items i ++ cited_is rs i

-- a request by what it is made of
pub request_is : {T P : Type 0} (index : T → ℕ) (answers : T → Answers) (r : CitationRequest T P) → request_from index answers (request_parts r) ≡ request_view index answers r
request_is index answers r = λ i. record { context = context_of r; note_number = r.note_number; items = map-map (item_from index answers) parts_of r.items.items i }

all_stay : {X : Type 0} (f : X → X) → ((x : X) → f x ≡ x) → (xs : List X) → map f xs ≡ xs
all_stay f same [] = refl
all_stay f same (x ∷ xs) = λ i. same x i ∷ all_stay f same xs i

enumerated : {X : Type 0} (n : ℕ) (xs : List X) → map (λ (e : ℕ × X). e.1) (enumerate_from n xs) ≡ xs
enumerated n [] = refl
enumerated n (x ∷ xs) = ap (λ ys. x ∷ ys) (enumerated (n + 1) xs)

-- where a style has no keys, no entry has
no_keys : (b : Bool) (x : StyleContext) (a : Answers) (p : CiteProperties) → keys_of b x.style ≡ [] → keys_with b x a p ≡ []
no_keys b x a p none = ap (map (part_by (printed_from x None b a p) x.style (inherited b x.style))) none

-- where the citation has no keys, requests stay as they are
module _ {T P : Type 0} (answers : T → Answers) (s : Style) (none : s.citation_sort ≡ []) (number : T → ℕ) where
  no_item_keys : (x : StyleContext) → x.style.citation_sort ≡ [] → (i : Parts T P) → item_keys x answers number i ≡ []
  no_item_keys x empty i = no_keys false x (answers i.entry) (sorting_properties (number i.entry) (option_map plain_locator i.locator)) empty

  request_stays : (r : RequestParts T P) → request_in_order s answers number r ≡ r
  request_stays r =
      let x = record r.context { style = s } in
      λ i. record r { items = unordered (item_keys x answers number) (no_item_keys x none) r.items i }

pub requests_stay : {T P : Type 0} (same : T → T → Bool) (answers : T → Answers) (s : Style) (first : List T) (rs : List (RequestParts T P)) → s.citation_sort ≡ [] → requests_in_order same answers s first rs ≡ rs
requests_stay same answers s first rs none =
    let number = number_among same s first (cited_in rs) in
    all_stay (request_in_order s answers number) (request_stays answers s none number) rs

-- where the bibliography has no keys, entries stay in their order
pub entries_stay : {T : Type 0} (answers : T → Answers) (x : StyleContext) (es : List T) → x.style.bibliography_sort ≡ [] → entries_in_order x answers es ≡ es
entries_stay answers x es none =
    ap (map (λ e. e.1)) (unordered (entry_keys x answers) (λ e. no_keys true x (answers e.1) (sorting_properties e.0 None) none) (enumerate_from 0 es)) ∙ enumerated 0 es

-- a request of fewer than two items stays as it is
pub few_in_order : {T P : Type 0} (s : Style) (answers : T → Answers) (number : T → ℕ) (r : CitationRequest T P) → length r.items.items < 2
    → request_parts r ≡ request_in_order s answers number (request_parts r)
few_in_order s answers number r few =
    let x = record (context_of r) { style = s } in
    let keys = item_keys x answers number in
    let seen = map parts_of r.items.items in
    λ i. record (request_parts r) { items = sym (few_stay keys seen (omega (arith, few, length-map r.items.items parts_of))) i }
