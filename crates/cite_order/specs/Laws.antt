-- Laws of documents in order.
use Rattle.std.specs.Prelude.{◌≡◌, ℕ, false, List}
use Rattle.cite_markers.specs.Document.{Piece}
use Rattle.cite_requests.specs.Works.{Works}
use Rattle.cite.specs.Verdict.{rendered_stage}
use Rattle.cite_order.specs.Order.{Setting, has_keys, rendered_in_order}

-- in a style without sort keys a document comes to what it comes to unsorted
abbrev pub WithoutKeysNothingIsSorted : Type 0
WithoutKeysNothingIsSorted =
    (works : Works) (s : Setting) (sections : List (List ℕ)) (pieces : List Piece)
    → has_keys s.sorting ≡ false
    → rendered_in_order works s sections pieces ≡ rendered_stage works s.context sections pieces
