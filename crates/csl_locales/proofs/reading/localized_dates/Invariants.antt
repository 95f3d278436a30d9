use Rattle.std.proofs.Common.{◌≡◌, ◌++◌, codes, length, map}
use Rattle.std.specs.Vec.Iter.{into_iter_items, into_iter_len}
use Rattle.xml_tree.specs.Views.{element_view}
use Rattle.rendering_locale.specs.Views.{localized_date_view}
use Rattle.csl_locales.specs.Called.{called, elements_of}
use Rattle.csl_locales.specs.Locales.{localized_date}
use Rattle.csl_locales.proofs.reading.localized_dates.Given as goal

abbrev pub invariant-loop-date : goal.invariant-loop-date
invariant-loop-date l = record {
  same : map localized_date_view l.dates.items ++ map localized_date (elements_of (into_iter_items l.date-iterator)) ≡ map localized_date (called (codes "date") (element_view l.element));
  long : into_iter_len l.date-iterator ≡ length (into_iter_items l.date-iterator);
}
