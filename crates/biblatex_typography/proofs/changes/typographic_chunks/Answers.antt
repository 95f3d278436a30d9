use Rattle.std.proofs.Common.{ap, ◌∙◌, arith}
use Rattle.std.proofs.lemmas.List.{take_all}
use Rattle.biblatex_content.proofs.PartedShapes.{kinds, fullness, parted_alike}
use Rattle.biblatex_typography.proofs.Chunks.{chunk_by_chunk, printed_each}
use Rattle.biblatex_typography.proofs.changes.typographic_chunks.Goals as goal

pub returns-clause-styled : goal.returns-clause-styled
returns-clause-styled c =
    let all = take_all c.loop-chunk.chunk-index c.args.chunks.now (omega arith) in
    c.loop-chunk.invariant.0 ∙ (ap printed_each all ∙ chunk_by_chunk c.args.chunks.now c.requires)

pub returns-clause-parted : goal.returns-clause-parted
returns-clause-parted c =
    let all = take_all c.loop-chunk.chunk-index c.args.chunks.now (omega arith) in
    parted_alike c.loop-chunk.printed.items c.args.chunks.now (c.loop-chunk.invariant.2 ∙ ap kinds all) (c.loop-chunk.invariant.3 ∙ ap fullness all)
