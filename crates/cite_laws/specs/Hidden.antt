-- Markers of hidden cites alone.
use Rattle.std.specs.Prelude.{◌≡◌, ℕ, true, All, List, [], Ok}
use Rattle.std.specs.List.{AllZip}
use Rattle.cite_markers.specs.Marker.{Cite}
use Rattle.cite_requests.specs.Markers.{markers_of}
use Rattle.cite.specs.Replaced.{IsOutputOf}
use Rattle.cite.specs.Verdict.{Task, IsVerdict}

-- a citation has no characters if all cites of its marker are hidden
abbrev pub IsEmptyIfHidden : List Cite → List ℕ → Type 0
IsEmptyIfHidden cites citation = All (λ c. c.hidden ≡ true) cites → citation ≡ []

-- A marker of hidden cites alone prints nothing: an output is the document with a citation instead of each marker, and a bibliography, and
-- the citations of such markers are empty.
abbrev pub HiddenMarkersPrintNothing : Type 0
HiddenMarkersPrintNothing =
    (bib : List ℕ) (task : Task) (output : List ℕ) → IsVerdict bib task (Ok output)
    → (citations : List (List ℕ)) × (bibliography : List ℕ) × (is : IsOutputOf task.document citations bibliography output)
    × AllZip IsEmptyIfHidden (markers_of is.pieces) citations
