-- Items with their keys, while they are sorted.
use Rattle.std.specs.Prelude.{ℕ, Bool, List, filter_map, get_or, length, map, position}
use Rattle.std.specs.List.{range_with_len}
use Rattle.std.specs.Option.{option_map_or}
use Rattle.driver_requests.specs.Order.{number_in, ordered}
use Rattle.driver_requests.specs.Views.{Parts}
use Rattle.rendering_context.specs.Contexts.{StyleContext}
use Rattle.rendering_entries.specs.Answers.{Answers}
use Rattle.rendering_style.specs.Styles.{Style}
use Rattle.rendering_sorting.specs.Keys.{Part}
use Rattle.driver_order.specs.Sorted.{item_keys}

-- items with their keys
abbrev pub keyed_items : {T P : Type 0} → StyleContext → (T → Answers) → (T → ℕ) → List (Parts T P)
    → List (List Part × Parts T P)
keyed_items x answers number items = map (λ i. (item_keys x answers number i, i)) items

-- cited entries, each once, in the order of a bibliography that others come first in, by their indices
abbrev pub order_of : {T : Type 0} → (T → T → Bool) → Style → List T → List T → List ℕ
order_of same s first all =
    let wanted = filter_map (λ e. position (same e) all) first in
    ordered s.bibliography wanted (range_with_len 0 (length all))

-- their numbers, by their indices: their positions in that order
abbrev pub numbers_of : {T : Type 0} → (T → T → Bool) → Style → List T → List T → List ℕ
numbers_of same s first all =
    let order = order_of same s first all in
    map (number_in 0 order) (range_with_len 0 (length order))

-- the number of an entry, by the numbers of all; of another entry, how many there are
abbrev pub number_by : {T : Type 0} → (T → T → Bool) → List T → List ℕ → T → ℕ
number_by same all numbers e =
    option_map_or (λ p. get_or numbers p (length numbers)) (position (same e) all) (length numbers)
