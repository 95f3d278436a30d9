use Rattle.std.proofs.Common.{◌≡◌, take}
use Rattle.biblatex_content.specs.Views.{spans, styled}
use Rattle.biblatex_content.proofs.PartedShapes.{kinds, fullness}
use Rattle.biblatex_content.proofs.copy.copied.Given as goal

abbrev pub invariant-loop-chunk : goal.invariant-loop-chunk
invariant-loop-chunk l =
    (styled l.copies.items ≡ styled (take l.chunk-index l.chunks))
    × (spans l.copies.items ≡ spans (take l.chunk-index l.chunks))
    × (kinds l.copies.items ≡ kinds (take l.chunk-index l.chunks))
    × (fullness l.copies.items ≡ fullness (take l.chunk-index l.chunks))
