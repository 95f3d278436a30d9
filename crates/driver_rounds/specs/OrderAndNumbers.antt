-- What is known of cites before any is printed.
use Rattle.std.specs.Prelude.{ℕ, Bool, List, length, if◌then◌else◌, Result, Ok, Err}
use Rattle.rendering_entries.specs.Answers.{Answers}
use Rattle.driver_requests.specs.Cites.{Numbered}
use Rattle.driver_requests.specs.Errors.{Overflow, overflow}
use Rattle.driver_requests.specs.Order.{cited, numbers_overflow}
use Rattle.driver_requests.specs.declared.request.CitationRequest.{CitationRequest}
use Rattle.driver_rounds.specs.Documents.{Document, order_in}
use Rattle.driver_rounds.specs.FirstPrints.{numbered_in}
use Rattle.driver_rounds.specs.Views.{all_numbered_cites_view}
use Rattle.driver_rounds.specs.declared.order_and_numbers.OrderAndNumbers.{OrderAndNumbers}

-- How many entries are cited, their order, and the cites of each request with their numbers.
pub record KnownCites (P : Type 0) : Type 0 where
  pub count : ℕ
  pub order : List ℕ
  pub cites : List (List (Numbered P))

-- what is known of the cites of a document
abbrev pub known_of : {P : Type 0} → (P → P → Bool) → Document P → KnownCites P
known_of same d = record { count = length (cited d.requests); order = order_in d; cites = numbered_in same d }

-- what is known of the cites of a document, or that a number is above the greatest that is printed
abbrev pub known_in : {P : Type 0} → (P → P → Bool) → Document P → Result (KnownCites P) Overflow
known_in same d = if numbers_overflow d.offset (cited d.requests) then Err overflow else Ok (known_of same d)

-- what the code knows of cites
abbrev pub known_view : {T P : Type 0} → (T → Answers) → List (CitationRequest T P) → OrderAndNumbers → KnownCites P
known_view answers requests k = record { count = k.count; order = k.order.items; cites = all_numbered_cites_view answers requests k.runs.items }
