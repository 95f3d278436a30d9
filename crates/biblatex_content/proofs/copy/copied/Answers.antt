use Rattle.std.proofs.Common.{ap, ◌∙◌, arith}
use Rattle.std.proofs.lemmas.List.{take_all}
use Rattle.biblatex_content.proofs.PartedShapes.{kinds, fullness, parted_alike}
use Rattle.biblatex_content.proofs.copy.copied.Goals as goal

pub returns-clause-parted : goal.returns-clause-parted
returns-clause-parted c =
    let all = take_all c.loop-chunk.chunk-index c.args.chunks.now (omega arith) in
    parted_alike c.loop-chunk.copies.items c.args.chunks.now (c.loop-chunk.invariant.2 ∙ ap kinds all) (c.loop-chunk.invariant.3 ∙ ap fullness all)
