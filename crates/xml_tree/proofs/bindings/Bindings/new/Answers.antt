use Rattle.std.proofs.Common.{None, refl}
use Rattle.xml_tree.proofs.Bound.{all_unbound}
use Rattle.xml_tree.proofs.bindings.Bindings.new.Goals as goal

pub returns : goal.returns
returns c = all_unbound (record { default_space = None; prefixes = c.new-prefixes.result }) refl c.new-prefixes.ensures.empty
