use Rattle.std.proofs.Common.{ℕ, ◌≤◌, Contains, vec_len}
use Rattle.reference_graph.specs.Invariant.{Rising}
use Rattle.reference_graph.proofs.search.cut_to.Given as goal

abbrev pub invariant-loop-start : goal.invariant-loop-start
invariant-loop-start l = record {
  rises : Rising l.starts.items;
  from : (b : ℕ) → Contains l.starts.items b → Contains l.fn.starts.items b;
  all : (b : ℕ) → Contains l.fn.starts.items b → b ≤ l.index → Contains l.starts.items b;
}

abbrev pub decreases-loop-start : goal.decreases-loop-start
decreases-loop-start l = vec_len l.starts
