use Rattle.std.proofs.Common.{ap, ◌∙◌}
use Rattle.std.specs.Option.{option_map}
use Rattle.xml_tree.specs.Views.{space_view}
use Rattle.xml_tree.proofs.Bound.{copied_space}
use Rattle.xml_tree.proofs.bindings.Bindings.get.Goals as goal

pub returns-in-None : goal.returns-in-None
returns-in-None c = rw c.in-None.is (copied_space c.as_ref.result ∙ ap (option_map space_view) c.as_ref.ensures.value)
