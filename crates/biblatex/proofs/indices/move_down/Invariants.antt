use Rattle.std.proofs.Common.{◌≡◌, ◌++◌, map, take, drop, vec_len}
use Rattle.biblatex.specs.Indices.{named_down}
use Rattle.biblatex.proofs.indices.move_down.Given as goal

abbrev pub invariant-loop-place : goal.invariant-loop-place
invariant-loop-place l = (l.names.items ≡ map (named_down l.out) (take l.place l.fn.names.items) ++ drop l.place l.fn.names.items) × (vec_len l.names ≡ vec_len l.fn.names)
