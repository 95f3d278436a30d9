-- The markers of a document, and the works that their cites cite.
use Rattle.std.specs.Prelude.{ℕ, List, map, filter_map, Option, Some, None, Result, Ok, Err}
use Rattle.std.specs.List.{flat_map}
use Rattle.laws.specs.Text.{text}
use Rattle.literature_entries.specs.EntriesData.{EntryData}
use Rattle.cite_markers.specs.Document.{Piece, Text, Marker}
use Rattle.cite_markers.specs.Marker.{Cite}
use Rattle.cite_requests.specs.Steps.{all_ok}
use Rattle.cite_requests.specs.Works.{Works, meaning}

-- a cite, and the work that its name means
pub record CitedWork : Type 0 where
  pub cite : Cite
  pub work : EntryData

-- the cites of a marker
abbrev pub marker_in : Piece → Option (List Cite)
marker_in (Text t) = None
marker_in (Marker cites) = Some cites

-- the cites of each marker of a document
abbrev pub markers_of : List Piece → List (List Cite)
markers_of pieces = filter_map marker_in pieces

-- the names in the cites of a document
abbrev pub names_cited : List Piece → List (List ℕ)
names_cited pieces = flat_map (map (λ c. text c.name)) (markers_of pieces)

-- a cite with its work; where it has none, its name, in bytes
abbrev pub with_work : Cite → Option EntryData → Result CitedWork (List ℕ)
with_work c None = Err (text c.name)
with_work c (Some w) = Ok (record { cite = c; work = w })

-- a cite with the work that its name means
abbrev pub cited_work : Works → Cite → Result CitedWork (List ℕ)
cited_work works c = with_work c (meaning (text c.name) works)

-- the cites of each marker with their works, or the first name in the document that means none
abbrev pub cited_works : Works → List Piece → Result (List (List CitedWork)) (List ℕ)
cited_works works pieces = all_ok (all_ok (cited_work works)) (markers_of pieces)
