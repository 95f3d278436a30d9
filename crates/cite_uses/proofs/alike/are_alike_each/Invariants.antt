use Rattle.cite_uses.specs.Alike.{asked_names, asked_selectors, works_view}
use Rattle.cite_uses.proofs.AlikePairs.{KnownTo}
use Rattle.cite_uses.proofs.alike.are_alike_each.Given as goal

abbrev pub invariant-loop-pair : goal.invariant-loop-pair
invariant-loop-pair l = KnownTo (asked_names l.asked) (asked_selectors l.asked) (works_view l.first) (works_view l.second) l.pairs l.pair-index l.last
