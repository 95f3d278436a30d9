-- Histories of entries, without where they lie in memory.
use Rattle.std.specs.Prelude.{◌≡◌, ℕ, List, map, get_or, Vec, Result, IfOk}
use Rattle.driver_requests.specs.History.{Facts, Note, facts_in, uncited}
use Rattle.driver_requests.specs.declared.history.CiteFacts.{CiteFacts}
use Rattle.driver_requests.specs.declared.history.RequestNote.{RequestNote}
use Rattle.driver_requests.specs.declared.history.History.{History}

-- the history of the entry at an index
abbrev pub history_at : List History → ℕ → History
history_at xs entry = get_or xs entry uncited

-- what is known of a cite from its index
abbrev pub facts_view : CiteFacts → Facts
facts_view f = record { first_note_number = f.first_note_number; is_near_note = f.is_near_note; is_first = f.is_first }

-- such facts, request by request
abbrev pub facts_by_request_view : {A : Type 0} → List (Vec CiteFacts A) → List (List Facts)
facts_by_request_view {A} runs = map (λ (run : Vec CiteFacts A). map facts_view run.items) runs

-- a request that cites the entries at some indices
abbrev pub note_of : RequestNote → List ℕ → Note
note_of n entries = record { number = n.number; distance = n.distance; entries = entries }

-- what a call gives is what is known of the cites of a request, by the histories of entries before it
abbrev pub GivesFacts : {A E : Type 0} → RequestNote → List ℕ → List History → Result (Vec CiteFacts A) E → Type 0
GivesFacts n entries histories r = IfOk r (λ f. map facts_view f.items ≡ facts_in n.index (note_of n entries) (history_at histories))
