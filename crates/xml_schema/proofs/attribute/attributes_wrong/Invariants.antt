use Rattle.std.proofs.Common.{◌≡◌, drop, map}
use Rattle.std.specs.List.{filter_map}
use Rattle.xml_text.specs.Views.{placed_view}
use Rattle.xml_tree.specs.Views.{attribute_view}
use Rattle.xml_schema.specs.Faults.{attribute_wrong, first_of}
use Rattle.xml_schema.proofs.attribute.attributes_wrong.Given as goal

abbrev pub invariant-loop-attribute : goal.invariant-loop-attribute
invariant-loop-attribute l =
    first_of (filter_map (attribute_wrong l.schema l.rule) (map (placed_view attribute_view) (drop l.attribute-index l.attributes))) ≡ first_of (filter_map (attribute_wrong l.schema l.rule) (map (placed_view attribute_view) l.attributes))
