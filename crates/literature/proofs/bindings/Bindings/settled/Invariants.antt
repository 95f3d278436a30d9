use Rattle.std.proofs.Common.{◌≡◌, map, drop}
use Rattle.hashes.specs.TextIndices.{number_of}
use Rattle.literature.specs.Bindings.{settle, settled}
use Rattle.literature.specs.BoundNames.{AreIndexed, binding_view}
use Rattle.literature.specs.Found.{all_named}
use Rattle.literature.proofs.bindings.Bindings.settled.Given as goal

abbrev pub invariant-loop-named : goal.invariant-loop-named
invariant-loop-named l =
    (settle (map binding_view l.entries.items) (drop l.named-index (all_named l.found)) ≡ settled (all_named l.found)) × AreIndexed (number_of l.indices) l.entries.items
