use Rattle.std.proofs.Common.{◌≡◌, ◌||◌, ℕ, List, drop, map}
use Rattle.std.specs.Borrow.{Bor}
use Rattle.biblatex.specs.Bibliographies.{listed_view}
use Rattle.cite_markers.specs.Views.{cite_view}
use Rattle.cite_requests.specs.Cited.{is_among, keys_named}
use Rattle.cite_requests.specs.Views.{has}
use Rattle.cite_requests.proofs.cited.insert_named.Given as goal

abbrev pub invariant-loop-cite : goal.invariant-loop-cite
invariant-loop-cite l =
    (k : Bor (List ℕ)) → (has l.keys k || is_among (keys_named (listed_view l.file) (map cite_view (drop l.cite-index l.cites))) k.now) ≡ (has l.fn.keys k || is_among (keys_named (listed_view l.file) (map cite_view l.cites)) k.now)
