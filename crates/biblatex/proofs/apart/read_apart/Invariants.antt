use Rattle.std.proofs.Common.{◌≡◌, map, length}
use Rattle.std.specs.Vec.Iter.{into_iter_items, into_iter_len}
use Rattle.biblatex_text.specs.Views.{entry_view, spanned_text_view}
use Rattle.biblatex_entries.specs.Entries.{sources_view}
use Rattle.biblatex_suppliers.specs.Written.{all_with, said}
use Rattle.biblatex_reading.specs.Reading.{up_to_fault}
use Rattle.biblatex_reading.proofs.ReadingSteps.{followed}
use Rattle.biblatex.proofs.apart.read_apart.Given as goal

abbrev pub invariant-loop-raw : goal.invariant-loop-raw
invariant-loop-raw l = record {
  same : followed (all_with (sources_view l.entries.items) l.shared.items) (map spanned_text_view l.keys.items) (up_to_fault l.abbreviations (map entry_view (into_iter_items l.raw-iterator))) ≡ up_to_fault l.abbreviations (map entry_view l.fn.raws.items);
  count : length (sources_view l.entries.items) ≡ length l.shared.items;
  names : map said (sources_view l.entries.items) ≡ map said (all_with (sources_view l.entries.items) l.shared.items);
  long : into_iter_len l.raw-iterator ≡ length (into_iter_items l.raw-iterator);
}
