use Rattle.std.proofs.Common.{◌≡◌, length, map}
use Rattle.std.specs.Vec.Iter.{into_iter_items, into_iter_len}
use Rattle.xml_text.specs.Views.{placed_view}
use Rattle.xml_tree.specs.Folding.{folded}
use Rattle.xml_tree.specs.Scope.{over}
use Rattle.xml_tree.specs.Names.{expand, expanded}
use Rattle.xml_tree.specs.Building.{scope_of}
use Rattle.xml_tree.specs.Views.{bindings_view, attributes_view, valued_view, values_view, opens_of}
use Rattle.xml_tree.proofs.names.expanded.Given as goal

abbrev pub invariant-loop-value : goal.invariant-loop-value
invariant-loop-value l = record {
  same : folded (expand (over (bindings_view l.own) (scope_of (opens_of l.opens)))) (attributes_view l.attributes) (map (placed_view valued_view) (into_iter_items l.value-iterator))
      ≡ expanded (over (bindings_view l.own) (scope_of (opens_of l.opens))) (values_view l.fn.values);
  long : into_iter_len l.value-iterator ≡ length (into_iter_items l.value-iterator);
}
