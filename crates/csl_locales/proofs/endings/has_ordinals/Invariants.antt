use Rattle.std.proofs.Common.{◌≡◌, length}
use Rattle.std.specs.List.{list_any}
use Rattle.std.specs.Vec.Iter.{into_iter_items, into_iter_len}
use Rattle.xml_tree.specs.Views.{element_view}
use Rattle.csl_locales.specs.Called.{elements_of}
use Rattle.csl_locales.specs.Endings.{is_ordinal}
use Rattle.csl_locales.specs.Terms.{terms_of}
use Rattle.csl_locales.proofs.endings.has_ordinals.Given as goal

abbrev pub invariant-loop-term : goal.invariant-loop-term
invariant-loop-term l = record {
  same : list_any is_ordinal (elements_of (into_iter_items l.term-iterator)) ≡ list_any is_ordinal (terms_of (element_view l.element));
  long : into_iter_len l.term-iterator ≡ length (into_iter_items l.term-iterator);
}
