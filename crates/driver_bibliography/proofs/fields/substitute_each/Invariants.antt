use Rattle.std.proofs.Common.{◌≡◌, ◌+◌, length, map}
use Rattle.std.specs.Str.{chars}
use Rattle.std.specs.Vec.Iter.{into_iter_items, into_iter_len}
use Rattle.driver_bibliography.specs.Views.{all_changed, printed_view, repeated_view}
use Rattle.driver_bibliography.proofs.EachSteps.{changed_from}
use Rattle.driver_bibliography.proofs.fields.substitute_each.Given as goal

abbrev pub invariant-loop-item : goal.invariant-loop-item
invariant-loop-item l = record {
  same : changed_from (chars l.text) l.repeats l.items.items (into_iter_items l.item-iterator) ≡ all_changed (chars l.text) (map repeated_view l.repeats) (map printed_view l.fn.printed.items);
  long : into_iter_len l.item-iterator ≡ length (into_iter_items l.item-iterator);
  all : length l.items.items + length (into_iter_items l.item-iterator) ≡ length l.repeats;
}
