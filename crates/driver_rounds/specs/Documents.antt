-- Requests and what is asked of their bibliography.
use Rattle.std.specs.Prelude.{ℕ, List, length}
use Rattle.std.specs.List.{flat_map}
use Rattle.rendering_context.specs.Contexts.{StyleContext}
use Rattle.driver_requests.specs.Requests.{Request}
use Rattle.driver_requests.specs.Order.{cited, ordered, number_in}

-- The requests; the style of the bibliography; the entries that are wanted first in it, by their indices (others than cited ones change
-- nothing); and what is added to all numbers.
pub record Document (P : Type 0) : Type 0 where
  pub requests : List (Request P)
  pub bibliography_context : StyleContext
  pub wanted : List ℕ
  pub offset : ℕ

-- the order of the cited entries
abbrev pub order_in : {P : Type 0} → Document P → List ℕ
order_in d = ordered d.bibliography_context.style.bibliography d.wanted (cited d.requests)

-- the number of an entry, from zero
abbrev pub number_of : {P : Type 0} → Document P → ℕ → ℕ
number_of d index = number_in d.offset (order_in d) index

-- how many items there are
abbrev pub items_count : {P : Type 0} → Document P → ℕ
items_count d = length (flat_map (λ r. r.items) d.requests)
