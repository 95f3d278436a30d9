use Rattle.std.proofs.Common.{◌≡◌, ◌++◌, codes, length, map}
use Rattle.std.specs.Vec.Iter.{into_iter_items, into_iter_len}
use Rattle.xml_tree.specs.Views.{element_view}
use Rattle.rendering_locale.specs.Views.{locale_view}
use Rattle.csl_nodes.specs.Views.{words_view}
use Rattle.csl_locales.specs.Called.{called, elements_of}
use Rattle.csl_locales.specs.Locales.{locale}
use Rattle.csl_styles.proofs.locales.locales_of.Given as goal

abbrev pub invariant-loop-part : goal.invariant-loop-part
invariant-loop-part l = record {
  same : map locale_view l.locales.items ++ map (locale (words_view l.words)) (elements_of (into_iter_items l.part-iterator)) ≡ map (locale (words_view l.words)) (called (codes "locale") (element_view l.element));
  long : into_iter_len l.part-iterator ≡ length (into_iter_items l.part-iterator);
}
