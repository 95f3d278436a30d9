use Rattle.std.proofs.Common.{◌≡◌, drop, map}
use Rattle.xml_text.specs.Views.{placed_view}
use Rattle.xml_tree.specs.Folding.{folded}
use Rattle.xml_tree.specs.Names.{declare, declared}
use Rattle.xml_tree.specs.Views.{bindings_view, valued_view}
use Rattle.xml_tree.proofs.names.declared.Given as goal

abbrev pub invariant-loop-attribute : goal.invariant-loop-attribute
invariant-loop-attribute l = folded declare (bindings_view l.own) (map (placed_view valued_view) (drop l.attribute-index l.attributes)) ≡ declared (map (placed_view valued_view) l.attributes)
