use Rattle.std.proofs.Common.{arith}
use Rattle.std.proofs.lemmas.List.Edits.{map_over_more}
use Rattle.biblatex_content.specs.Spans.{placed}
use Rattle.biblatex_content.proofs.contents.place_all.Goals as goal

pub loop-place-preserved : goal.loop-place-preserved
loop-place-preserved c = (
  map_over_more (placed c.args.span.now.start c.args.span.now.end) c.args.chunks.now.items c.loop-place.chunks.items c.loop-place.place c.index_mut-chunk.result.now (omega (arith, c.loop-place-test.true, c.len-place-end.ensures, c.args.chunks.now.ok.0)) c.loop-place.invariant.0 c.index_mut-chunk.ensures.value,
  c.loop-place.invariant.1,
)
