use Rattle.xml_tree.proofs.Bound.{prefix_bound}
use Rattle.xml_tree.proofs.bindings.bind_prefix.Goals as goal

pub returns : goal.returns
returns c = prefix_bound c.args.prefixes.now c.insert.new.self c.args.prefix c.args.space c.utf8.prefix c.in_ok-insert.ensures.updates
