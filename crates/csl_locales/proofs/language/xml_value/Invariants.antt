use Rattle.std.proofs.Common.{◌≡◌, drop, map}
use Rattle.xml_text.specs.Views.{placed_view}
use Rattle.xml_tree.specs.Views.{attribute_view}
use Rattle.csl_locales.specs.Languages.{xml_value}
use Rattle.csl_locales.proofs.language.xml_value.Given as goal

abbrev pub invariant-loop-attribute : goal.invariant-loop-attribute
invariant-loop-attribute l = xml_value l.name (map (placed_view attribute_view) (drop l.attribute-index l.attributes)) ≡ xml_value l.name (map (placed_view attribute_view) l.attributes)
