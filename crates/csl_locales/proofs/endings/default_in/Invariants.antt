use Rattle.std.proofs.Common.{◌≡◌, length}
use Rattle.std.specs.List.{find}
use Rattle.std.specs.Vec.Iter.{into_iter_items, into_iter_len}
use Rattle.xml_tree.specs.Views.{element_view}
use Rattle.csl_locales.specs.Called.{elements_of}
use Rattle.csl_locales.specs.Endings.{is_default}
use Rattle.csl_locales.specs.Terms.{terms_of}
use Rattle.csl_locales.proofs.endings.default_in.Given as goal

abbrev pub invariant-loop-term : goal.invariant-loop-term
invariant-loop-term l = record {
  same : find is_default (elements_of (into_iter_items l.term-iterator)) ≡ find is_default (terms_of (element_view l.element));
  long : into_iter_len l.term-iterator ≡ length (into_iter_items l.term-iterator);
}
