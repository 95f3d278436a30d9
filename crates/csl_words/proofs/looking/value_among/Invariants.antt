use Rattle.std.proofs.Common.{◌≡◌, drop, map}
use Rattle.xml_text.specs.Views.{placed_view}
use Rattle.xml_tree.specs.Views.{attribute_view}
use Rattle.csl_words.specs.Looking.{value_among}
use Rattle.csl_words.proofs.looking.value_among.Given as goal

abbrev pub invariant-loop-attribute : goal.invariant-loop-attribute
invariant-loop-attribute l = value_among l.name (map (placed_view attribute_view) (drop l.attribute-index l.attributes)) ≡ value_among l.name (map (placed_view attribute_view) l.attributes)
