use Rattle.std.proofs.Common.{◌≡◌, replicate, None}
use Rattle.driver.proofs.driver.unlisted.Given as goal

abbrev pub invariant-loop : goal.invariant-loop
invariant-loop g l = l.listed.items ≡ replicate l.counter None
