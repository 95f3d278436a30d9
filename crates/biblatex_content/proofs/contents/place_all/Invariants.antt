use Rattle.std.proofs.Common.{◌≡◌, ◌++◌, map, take, drop, vec_len}
use Rattle.biblatex_content.specs.Spans.{placed}
use Rattle.biblatex_content.proofs.contents.place_all.Given as goal

abbrev pub invariant-loop-place : goal.invariant-loop-place
invariant-loop-place l = (l.chunks.items ≡ map (placed l.span.start l.span.end) (take l.place l.fn.chunks.items) ++ drop l.place l.fn.chunks.items) × (vec_len l.chunks ≡ vec_len l.fn.chunks)
