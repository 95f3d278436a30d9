-- Numbers of entries, as they are found.
use Rattle.std.proofs.Common.{◌≡◌, ℕ, ◌<◌, Bool, true, false, cond, not, All, List, length, get_or, map, nat_eq, nat_lt, Option, Some, None, refl, sym, ap, subst, ◌∙◌, arith, ne_eqb, ltb-true, ltb-false}
use Rattle.std.specs.List.{position_or_len, range_with_len}
use Rattle.std.specs.Option.{option_map_or}
use Rattle.std.proofs.lemmas.List.Elements.{All-get_or}
use Rattle.std.proofs.lemmas.List.FromFn.{get_or-map-range_with_len, length-map-range_with_len, length-range_with_len}
use Rattle.std.proofs.lemmas.List.Sums.{position_or_len_is, prefix_len-le-length}
use Rattle.driver_requests.specs.Order.{number_in, ordered}
use Rattle.driver_requests.proofs.OrderCount.{range_within, wanted_length, wanted_within}
use Rattle.rendering_style.specs.Styles.{Bibliography}
use Rattle.driver_order.specs.Keyed.{number_by}

-- an order of so many entries has as many
order_length : (b : Option Bibliography) (ws : List ℕ) (n : ℕ) → length (ordered b ws (range_with_len 0 n)) ≡ n
order_length None ws n = length-range_with_len 0 n
order_length (Some b) ws n = wanted_length ws n

-- and no others
order_within : (b : Option Bibliography) (ws : List ℕ) (n : ℕ) → All (λ p. p < n) (ordered b ws (range_with_len 0 n))
order_within None ws n = range_within n
order_within (Some b) ws n = wanted_within ws n

-- an index above all is none of them
none_is : (n : ℕ) (xs : List ℕ) → All (λ p. p < n) xs → position_or_len (nat_eq n) xs ≡ length xs
none_is n xs within =
    position_or_len_is (nat_eq n) xs (length xs) 0 (omega arith)
    (λ k here. let low : get_or xs k 0 < n = All-get_or (λ p. p < n) xs k 0 here within in ne_eqb n (get_or xs k 0) (λ e. omega (arith, e, low)))
    (λ past. absurd (omega (arith, past)))

module _ {T : Type 0} (same : T → T → Bool) (all : List T) (e : T) (numbers order : List ℕ) where
  abbrev place : ℕ
  place = position_or_len (same e) all

  number_at : numbers ≡ map (number_in 0 order) (range_with_len 0 (length order)) → length order ≡ length all → All (λ p. p < length all) order
      → (b : Bool) → nat_lt place (length all) ≡ b → option_map_or (λ p. get_or numbers p (length numbers)) (cond b (Some place) None) (length numbers) ≡ number_in 0 order place
  number_at is many within true there =
      let low : place < length order = omega (arith, ltb-true place (length all) there, many) in
      ap (λ ns. get_or ns place (length numbers)) is
      ∙ get_or-map-range_with_len (number_in 0 order) 0 (length order) place place (length numbers) low (omega arith)
  number_at is many within false past =
      let last : place ≡ length all = omega (arith, ltb-false place (length all) past, prefix_len-le-length (λ x. not (same e x)) all) in
      let count : length numbers ≡ length order = ap length is ∙ length-map-range_with_len (number_in 0 order) 0 (length order) in
      let other : position_or_len (nat_eq place) order ≡ length order = none_is place order (subst (λ n. All (λ p. p < n) order) (sym last) within) in
      omega (arith, count, other)

  -- the number at the place of an entry is its number
  number_is : numbers ≡ map (number_in 0 order) (range_with_len 0 (length order)) → length order ≡ length all → All (λ p. p < length all) order
      → number_by same all numbers e ≡ number_in 0 order place
  number_is is many within = number_at is many within (nat_lt place (length all)) refl

-- so it is in the order of a bibliography
pub number_found : {T : Type 0} (same : T → T → Bool) (all : List T) (b : Option Bibliography) (ws numbers : List ℕ)
    → numbers ≡ map (number_in 0 (ordered b ws (range_with_len 0 (length all)))) (range_with_len 0 (length (ordered b ws (range_with_len 0 (length all)))))
    → (e : T) → number_by same all numbers e ≡ number_in 0 (ordered b ws (range_with_len 0 (length all))) (position_or_len (same e) all)
number_found same all b ws numbers is e =
    number_is same all e numbers (ordered b ws (range_with_len 0 (length all))) is (order_length b ws (length all)) (order_within b ws (length all))
