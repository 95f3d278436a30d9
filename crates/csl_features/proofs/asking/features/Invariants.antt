use Rattle.std.proofs.Common.{◌≡◌, ◌++◌, length, map}
use Rattle.std.specs.Prelude.{flat_map}
use Rattle.std.specs.Vec.Iter.{into_iter_items, into_iter_len}
use Rattle.xml_tree.specs.Views.{element_view}
use Rattle.csl_locales.specs.Called.{elements_of}
use Rattle.csl_features.specs.Features.{elements, own_features}
use Rattle.csl_features.specs.Views.{feature_view}
use Rattle.csl_features.proofs.asking.features.Given as goal

abbrev pub invariant-loop-element : goal.invariant-loop-element
invariant-loop-element l = record {
  same : map feature_view l.found.items ++ flat_map own_features (elements_of (into_iter_items l.element-iterator)) ≡ flat_map own_features (elements (element_view l.root));
  long : into_iter_len l.element-iterator ≡ length (into_iter_items l.element-iterator);
}
