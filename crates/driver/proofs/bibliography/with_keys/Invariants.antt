use Rattle.std.proofs.Common.{◌≡◌, ◌+◌, ◌++◌, drop, length, map}
use Rattle.std.specs.Vec.Iter.{into_iter_items, into_iter_len}
use Rattle.driver_bibliography.specs.Views.{fields_view}
use Rattle.driver.specs.Listing.{keys_of}
use Rattle.driver.specs.RenderedViews.{item_fields_view, key_view}
use Rattle.driver.proofs.bibliography.with_keys.Given as goal

abbrev pub invariant-loop-own : goal.invariant-loop-own
invariant-loop-own g l = record {
  same : map item_fields_view l.items.items ++ map fields_view (into_iter_items l.own-iterator) ≡ map fields_view l.fn.fields.items;
  keys : map key_view l.items.items ++ keys_of g.T.EntryLike.answers (drop (length l.items.items) l.entries) ≡ keys_of g.T.EntryLike.answers l.entries;
  long : into_iter_len l.own-iterator ≡ length (into_iter_items l.own-iterator);
  all : length l.items.items + length (into_iter_items l.own-iterator) ≡ length l.entries;
}
