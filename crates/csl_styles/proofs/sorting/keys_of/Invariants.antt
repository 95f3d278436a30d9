use Rattle.std.proofs.Common.{◌≡◌, ◌++◌, codes, length, map}
use Rattle.std.specs.Vec.Iter.{into_iter_items, into_iter_len}
use Rattle.xml_tree.specs.Views.{element_view}
use Rattle.rendering_style.specs.Views.{sort_key_view}
use Rattle.csl_locales.specs.Called.{called, elements_of}
use Rattle.csl_styles.specs.Layouts.{sort_key}
use Rattle.csl_styles.proofs.sorting.keys_of.Given as goal

abbrev pub invariant-loop-key : goal.invariant-loop-key
invariant-loop-key l = record {
  same : map sort_key_view l.keys.items ++ map sort_key (elements_of (into_iter_items l.key-iterator)) ≡ map sort_key (called (codes "key") (element_view l.element));
  long : into_iter_len l.key-iterator ≡ length (into_iter_items l.key-iterator);
}
