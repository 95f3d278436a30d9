use Rattle.std.proofs.Common.{◌≡◌, drop}
use Rattle.biblatex_content.specs.Spans.{spanned}
use Rattle.biblatex_content.proofs.contents.Contents.is_empty.Given as goal

abbrev pub invariant-loop-chunk : goal.invariant-loop-chunk
invariant-loop-chunk l = spanned (drop l.chunk-index l.self.chunks.items) ≡ spanned l.self.chunks.items
