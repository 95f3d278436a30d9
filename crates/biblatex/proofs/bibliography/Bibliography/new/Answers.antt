use Rattle.std.proofs.Common.{List, length, sym, subst}
use Rattle.biblatex_entries.specs.Entries.{sources_view}
use Rattle.biblatex.specs.declared.indices.NamedIndex.{NamedIndex}
use Rattle.biblatex.specs.Indices.{meaning_in, names_in, AreWithin, AreInOrder}
use Rattle.biblatex.proofs.NamingOrder.{order_nothing}
use Rattle.biblatex.proofs.bibliography.Bibliography.new.Goals as goal

pub invariant_of-result : goal.invariant_of-result
invariant_of-result c = (
  subst (λ (ns : List NamedIndex). AreWithin (meaning_in (names_in ns)) (length (sources_view c.new.result.items))) (sym c.new-2.ensures.items) (λ name. tt),
  subst AreInOrder (sym c.new-2.ensures.items) order_nothing,
)
