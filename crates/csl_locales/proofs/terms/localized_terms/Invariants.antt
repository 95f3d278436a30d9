use Rattle.std.proofs.Common.{◌≡◌, ◌++◌, length, map}
use Rattle.std.specs.Vec.Iter.{into_iter_items, into_iter_len}
use Rattle.xml_tree.specs.Views.{element_view}
use Rattle.rendering_locale.specs.Views.{term_view}
use Rattle.csl_nodes.specs.Views.{words_view}
use Rattle.csl_locales.specs.Called.{elements_of}
use Rattle.csl_locales.specs.Terms.{localized_term, terms_of}
use Rattle.csl_locales.proofs.terms.localized_terms.Given as goal

abbrev pub invariant-loop-term : goal.invariant-loop-term
invariant-loop-term l = record {
  same : map term_view l.terms.items ++ map (localized_term (words_view l.words)) (elements_of (into_iter_items l.term-iterator))
      ≡ map (localized_term (words_view l.words)) (terms_of (element_view l.element));
  long : into_iter_len l.term-iterator ≡ length (into_iter_items l.term-iterator);
}
