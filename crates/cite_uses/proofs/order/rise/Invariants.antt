use Rattle.cite_uses.proofs.IndicesSorted.{RiseTo}
use Rattle.cite_uses.proofs.order.rise.Given as goal

abbrev pub invariant-loop-pair : goal.invariant-loop-pair
invariant-loop-pair l = RiseTo l.indices l.pair-index l.last
