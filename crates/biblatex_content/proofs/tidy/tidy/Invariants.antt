use Rattle.std.proofs.Common.{◌≡◌, length}
use Rattle.std.specs.Vec.Iter.{into_iter_items, into_iter_len}
use Rattle.biblatex_content.specs.Parted.{IsReady}
use Rattle.biblatex_content.specs.Spans.{spanned, tidied_at, member_spans, spans_to_come}
use Rattle.biblatex_content.specs.Tidy.{tidied, to_come}
use Rattle.biblatex_content.specs.Views.{styled}
use Rattle.biblatex_content.proofs.tidy.tidy.Given as goal

abbrev pub invariant-loop-chunk : goal.invariant-loop-chunk
invariant-loop-chunk l = record {
  same : to_come l.tidying (styled (into_iter_items l.chunk-iterator)) ≡ tidied (styled l.fn.chunks.items);
  spans : spans_to_come l.tidying (spanned (into_iter_items l.chunk-iterator)) ≡ member_spans (tidied_at (spanned l.fn.chunks.items));
  ready : IsReady l.tidying.contents;
  long : into_iter_len l.chunk-iterator ≡ length (into_iter_items l.chunk-iterator);
}
