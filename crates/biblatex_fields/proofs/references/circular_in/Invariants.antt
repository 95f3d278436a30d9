use Rattle.biblatex_fields.specs.Abbreviations.{Copied}
use Rattle.biblatex_fields.proofs.references.circular_in.Given as goal

abbrev pub invariant-loop-index : goal.invariant-loop-index
invariant-loop-index l = Copied l.circular.items l.order.circular l.index
