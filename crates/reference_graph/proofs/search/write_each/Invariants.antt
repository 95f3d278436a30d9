use Rattle.std.proofs.Common.{◌≡◌, length, drop}
use Rattle.reference_graph.specs.Search.{written}
use Rattle.reference_graph.proofs.search.write_each.Given as goal

abbrev pub invariant-loop-index : goal.invariant-loop-index
invariant-loop-index g l = record {
  long : length l.values ≡ length l.fn.values;
  rest : written (drop l.index-index l.indices) l.value l.values ≡ written l.indices l.value l.fn.values;
}
