use Rattle.std.proofs.Common.{◌≡◌, drop, map}
use Rattle.xml_text.specs.Views.{placed_view, attribute_view}
use Rattle.xml_tree.specs.Folding.{folded}
use Rattle.xml_tree.specs.Names.{with_value, valued}
use Rattle.xml_tree.specs.Views.{values_view}
use Rattle.xml_tree.proofs.names.few_valued.Given as goal

abbrev pub invariant-loop-attribute : goal.invariant-loop-attribute
invariant-loop-attribute l =
    folded with_value (values_view l.values) (map (placed_view attribute_view) (drop l.attribute-index l.attributes)) ≡ valued (map (placed_view attribute_view) l.attributes)
