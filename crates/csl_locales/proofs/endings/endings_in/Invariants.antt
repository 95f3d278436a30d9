use Rattle.std.proofs.Common.{◌≡◌, ◌++◌, length, map}
use Rattle.std.specs.List.{filter_map}
use Rattle.std.specs.Vec.Iter.{into_iter_items, into_iter_len}
use Rattle.xml_tree.specs.Views.{element_view}
use Rattle.rendering_locale.specs.Views.{ending_view}
use Rattle.csl_locales.specs.Called.{elements_of}
use Rattle.csl_locales.specs.Endings.{ending}
use Rattle.csl_locales.specs.Terms.{terms_of}
use Rattle.csl_locales.proofs.endings.endings_in.Given as goal

abbrev pub invariant-loop-term : goal.invariant-loop-term
invariant-loop-term l = record {
  same : map ending_view l.endings.items ++ filter_map ending (elements_of (into_iter_items l.term-iterator)) ≡ filter_map ending (terms_of (element_view l.element));
  long : into_iter_len l.term-iterator ≡ length (into_iter_items l.term-iterator);
}
