use Rattle.std.proofs.Common.{◌≡◌, ℕ, ◌<◌, []}
use Rattle.reference_graph.specs.References.{lists}
use Rattle.reference_graph.specs.Search.{search_view}
use Rattle.reference_graph.specs.Invariant.{IsInvariant, IsMet}
use Rattle.reference_graph.proofs.order.reference_order.Given as goal

abbrev pub invariant-loop-number : goal.invariant-loop-number
invariant-loop-number l = record {
  holds : IsInvariant (lists l.references) (search_view l.search);
  free : l.search.path.items ≡ [];
  met : (v : ℕ) → v < l.number → IsMet (search_view l.search) v;
}
