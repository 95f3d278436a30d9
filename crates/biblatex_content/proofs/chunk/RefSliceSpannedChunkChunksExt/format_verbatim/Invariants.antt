use Rattle.std.proofs.Common.{◌≡◌, take}
use Rattle.biblatex_content.specs.Views.{plain_text}
use Rattle.laws.specs.Text.{characters}
use Rattle.biblatex_content.proofs.chunk.RefSliceSpannedChunkChunksExt.format_verbatim.Given as goal

abbrev pub invariant-loop-chunk : goal.invariant-loop-chunk
invariant-loop-chunk l = characters l.text ≡ plain_text (take l.chunk-index l.self.now)
