use Rattle.std.proofs.Common.{◌≡◌, length}
use Rattle.biblatex_suppliers.proofs.along.nothing_supplied.Given as goal

abbrev pub invariant-loop : goal.invariant-loop
invariant-loop l = length l.supplies.items ≡ l.counter
