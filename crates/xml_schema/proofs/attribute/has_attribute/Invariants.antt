use Rattle.std.proofs.Common.{◌≡◌, drop, map}
use Rattle.xml_text.specs.Views.{placed_view}
use Rattle.xml_tree.specs.Views.{attribute_view}
use Rattle.xml_schema.specs.Faults.{has_attribute}
use Rattle.xml_schema.proofs.attribute.has_attribute.Given as goal

abbrev pub invariant-loop-attribute : goal.invariant-loop-attribute
invariant-loop-attribute l = has_attribute (map (placed_view attribute_view) (drop l.attribute-index l.attributes)) l.name ≡ has_attribute (map (placed_view attribute_view) l.attributes) l.name
