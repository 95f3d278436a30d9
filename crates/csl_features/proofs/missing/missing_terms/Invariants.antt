use Rattle.std.proofs.Common.{◌≡◌, ◌++◌, length, map}
use Rattle.std.specs.Prelude.{flat_map}
use Rattle.std.specs.Vec.Iter.{into_iter_items, into_iter_len}
use Rattle.xml_tree.specs.Views.{element_view}
use Rattle.csl_nodes.specs.Views.{words_view}
use Rattle.csl_locales.specs.Called.{elements_of}
use Rattle.csl_features.specs.Features.{elements}
use Rattle.csl_features.specs.Missing.{missing_at}
use Rattle.csl_features.specs.Views.{feature_view}
use Rattle.csl_features.proofs.missing.missing_terms.Given as goal

abbrev pub invariant-loop-element : goal.invariant-loop-element
invariant-loop-element l = record {
  same : map feature_view l.missing.items ++ flat_map (missing_at (words_view l.words) l.locales) (elements_of (into_iter_items l.element-iterator))
      ≡ flat_map (missing_at (words_view l.words) l.locales) (elements (element_view l.root));
  long : into_iter_len l.element-iterator ≡ length (into_iter_items l.element-iterator);
}
