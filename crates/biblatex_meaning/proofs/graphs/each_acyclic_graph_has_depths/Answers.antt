use Rattle.biblatex_meaning.proofs.Depth.{depth, depth_upto, less_deep}
use Rattle.biblatex_meaning.proofs.graphs.each_acyclic_graph_has_depths.Goals as goal

pub returns : goal.returns
returns c references none = (depth references, depth_upto references, λ i r has low. less_deep references i r (none r) has low)
