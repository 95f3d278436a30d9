use Rattle.cite_order.proofs.Stages.{keyless}
use Rattle.cite_order.proofs.order_laws.without_keys_nothing_is_sorted.Goals as goal

pub returns : goal.returns
returns c works s sections pieces none = keyless works s sections pieces none
