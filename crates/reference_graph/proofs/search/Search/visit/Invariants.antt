use Rattle.std.proofs.Common.{ℕ}
use Rattle.reference_graph.specs.References.{lists}
use Rattle.reference_graph.specs.Search.{search_view, weight}
use Rattle.reference_graph.specs.Invariant.{IsInvariant, IsMet}
use Rattle.reference_graph.proofs.search.Search.visit.Given as goal

abbrev pub invariant-loop-index : goal.invariant-loop-index
invariant-loop-index l = record {
  holds : IsInvariant (lists l.references) (search_view l.self);
  met : (v : ℕ) → IsMet (search_view l.fn.self) v → IsMet (search_view l.self) v;
  itself : IsMet (search_view l.self) l.number;
}

abbrev pub decreases-loop-index : goal.decreases-loop-index
decreases-loop-index l = weight (search_view l.self)
