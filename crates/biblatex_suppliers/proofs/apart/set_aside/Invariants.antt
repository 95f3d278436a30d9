use Rattle.biblatex_entries.specs.Entries.{source_view}
use Rattle.biblatex_suppliers.specs.Written.{IsSetAside}
use Rattle.biblatex_suppliers.proofs.apart.set_aside.Given as goal

abbrev pub invariant-loop-pair : goal.invariant-loop-pair
invariant-loop-pair l = IsSetAside (source_view l.fn.entry) (source_view l.entry) l.shared.items
