use Rattle.biblatex_meaning.proofs.Orders.{order_of, order_there}
use Rattle.biblatex_meaning.proofs.graphs.each_graph_has_an_order.Goals as goal

pub returns : goal.returns
returns c references = (order_of references, order_there references)
