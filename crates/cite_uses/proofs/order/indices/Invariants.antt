use Rattle.std.proofs.Common.{◌≡◌, ◌++◌, drop, map}
use Rattle.biblatex.specs.Bibliographies.{listed_view}
use Rattle.cite_uses.specs.Alike.{indices_of, now_of}
use Rattle.cite_uses.proofs.order.indices.Given as goal

abbrev pub invariant-loop-name : goal.invariant-loop-name
invariant-loop-name l =
    l.found.items ++ indices_of (listed_view l.file) (listed_view l.other) (map now_of (drop l.name-index l.names))
    ≡ indices_of (listed_view l.file) (listed_view l.other) (map now_of l.names)
