use Rattle.biblatex.proofs.IndicesOrder.{in_order_sorted}
use Rattle.biblatex.proofs.indices.index_in.Goals as goal

pub first_index_in-requires : goal.first_index_in-requires
first_index_in-requires c = in_order_sorted c.args.names.now c.requires
