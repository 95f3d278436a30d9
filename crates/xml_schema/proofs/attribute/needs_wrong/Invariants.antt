use Rattle.std.proofs.Common.{◌≡◌, drop, map}
use Rattle.std.specs.List.{filter_map}
use Rattle.xml_text.specs.Views.{placed_view}
use Rattle.xml_tree.specs.Views.{attribute_view}
use Rattle.xml_schema.specs.Faults.{need_wrong, first_of}
use Rattle.xml_schema.proofs.attribute.needs_wrong.Given as goal

abbrev pub invariant-loop-need : goal.invariant-loop-need
invariant-loop-need l =
    first_of (filter_map (need_wrong (map (placed_view attribute_view) l.attributes)) (drop l.need-index l.needs)) ≡ first_of (filter_map (need_wrong (map (placed_view attribute_view) l.attributes)) l.needs)
