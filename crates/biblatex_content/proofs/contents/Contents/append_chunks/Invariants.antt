use Rattle.std.proofs.Common.{◌≡◌, ◌++◌, length}
use Rattle.std.specs.Vec.Iter.{into_iter_items, into_iter_len}
use Rattle.biblatex_content.specs.Spans.{all_at, spanned_so_far}
use Rattle.biblatex_content.specs.Views.{so_far, styled}
use Rattle.biblatex_content.proofs.contents.Contents.append_chunks.Given as goal

abbrev pub invariant-loop-chunk : goal.invariant-loop-chunk
invariant-loop-chunk l = record {
  text : so_far l.self ++ styled (into_iter_items l.chunk-iterator) ≡ so_far l.fn.self ++ styled l.fn.chunks.items;
  members : spanned_so_far l.self ++ all_at l.span.start l.span.end (styled (into_iter_items l.chunk-iterator)) ≡ spanned_so_far l.fn.self ++ all_at l.span.start l.span.end (styled l.fn.chunks.items);
  long : into_iter_len l.chunk-iterator ≡ length (into_iter_items l.chunk-iterator);
}
