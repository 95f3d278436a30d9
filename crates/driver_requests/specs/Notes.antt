-- Requests as the notes that they stand in.
use Rattle.std.specs.Prelude.{ℕ, List, map, zip}
use Rattle.driver_requests.specs.Cites.{Cite}
use Rattle.driver_requests.specs.Requests.{Request}
use Rattle.driver_requests.specs.History.{Facts, Note}
use Rattle.driver_requests.specs.Views.{context_of}
use Rattle.driver_requests.specs.declared.request.CitationRequest.{CitationRequest}

-- a request
abbrev pub noted : {P : Type 0} → Request P → Note
noted r = record { number = r.note_number; distance = r.context.style.citation.near_note_distance; entries = map (λ i. i.entry.index) r.items }

-- what is known of a cite from its index
abbrev pub facts_of : {P : Type 0} → Cite P → Facts
facts_of c = record { first_note_number = c.first_note_number; is_near_note = c.is_near_note; is_first = c.is_first }

-- a request with the indices of the entries that it cites
abbrev pub note_view : {T P : Type 0} → CitationRequest T P → List ℕ → Note
note_view r entries = record { number = r.note_number; distance = (context_of r).style.citation.near_note_distance; entries = entries }

-- requests with the indices of the entries that they cite
abbrev pub notes_view : {T P : Type 0} → List (CitationRequest T P) → List (List ℕ) → List Note
notes_view {T} {P} rs runs = map (λ (p : CitationRequest T P × List ℕ). note_view p.0 p.1) (zip rs runs)
