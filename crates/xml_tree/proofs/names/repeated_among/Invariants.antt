use Rattle.std.proofs.Common.{◌≡◌, false, drop, map}
use Rattle.xml_text.specs.Views.{placed_view}
use Rattle.xml_tree.specs.Names.{repeated}
use Rattle.xml_tree.specs.Views.{attribute_view}
use Rattle.xml_tree.proofs.NamesMet.{has_full}
use Rattle.xml_tree.proofs.names.repeated_among.Given as goal

abbrev pub invariant-loop-attribute : goal.invariant-loop-attribute
invariant-loop-attribute l = repeated (has_full l.met) (map (placed_view attribute_view) (drop l.attribute-index l.attributes)) ≡ repeated (λ n. false) (map (placed_view attribute_view) l.attributes)
