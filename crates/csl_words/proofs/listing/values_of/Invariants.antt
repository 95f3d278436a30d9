use Rattle.std.proofs.Common.{◌≡◌, take}
use Rattle.std.specs.List.{filter_map}
use Rattle.laws.specs.Borrowed.{borrowed}
use Rattle.csl_words.specs.Looking.{table_view, in_table}
use Rattle.csl_words.proofs.listing.values_of.Given as goal

abbrev pub invariant-loop-word : goal.invariant-loop-word
invariant-loop-word g l = l.values.items ≡ filter_map (in_table (table_view l.rows)) (borrowed (take l.word-index l.words))
