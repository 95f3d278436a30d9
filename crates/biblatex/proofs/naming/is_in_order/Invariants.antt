use Rattle.std.proofs.Common.{◌≡◌, ℕ, ◌+◌, ◌<◌, ◌≤◌, get_or, Less}
use Rattle.biblatex.specs.declared.indices.NamedIndex.{NamedIndex}
use Rattle.biblatex.specs.Indices.{name_of}
use Rattle.biblatex.proofs.IndicesOrder.{compared}
use Rattle.biblatex.proofs.naming.is_in_order.Given as goal

abbrev pub invariant-loop-place : goal.invariant-loop-place
invariant-loop-place l = (1 ≤ l.place) × ((k : ℕ) (d : NamedIndex) → k + 1 < l.place → compared (name_of (get_or l.names k d)) (name_of (get_or l.names (k + 1) d)) ≡ Less)
