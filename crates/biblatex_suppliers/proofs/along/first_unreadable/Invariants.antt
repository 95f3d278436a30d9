use Rattle.std.proofs.Common.{◌≡◌, ◌<◌, ℕ, None, slice_get}
use Rattle.biblatex_suppliers.specs.Suppliers.{fault_of}
use Rattle.biblatex_suppliers.proofs.along.first_unreadable.Given as goal

abbrev pub invariant-loop-known : goal.invariant-loop-known
invariant-loop-known l = (k : ℕ) → k < l.known-index → fault_of (slice_get l.supplies k) ≡ None
