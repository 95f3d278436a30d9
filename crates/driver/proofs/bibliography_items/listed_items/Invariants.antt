use Rattle.std.proofs.Common.{◌≡◌, ◌+◌, ◌≤◌, ◌++◌, drop, length, map}
use Rattle.std.specs.Option.{option_map}
use Rattle.rendering.specs.Views.{style_context_view}
use Rattle.rendering_context.specs.Views.{state_view}
use Rattle.driver_bibliography.specs.Views.{printed_view}
use Rattle.driver.specs.FinalPrints.{listed_view}
use Rattle.driver.specs.Listing.{keys_listed, keys_of, trees_listed}
use Rattle.driver.proofs.bibliography_items.listed_items.Given as goal

abbrev pub invariant-loop-entry_index : goal.invariant-loop-entry_index
invariant-loop-entry_index g l = record {
  same : map printed_view l.trees.items ++ trees_listed (style_context_view l.context) (map (option_map (listed_view g.T.EntryLike.answers (map state_view l.states))) l.listed) (drop l.entry_index-index l.order)
      ≡ trees_listed (style_context_view l.context) (map (option_map (listed_view g.T.EntryLike.answers (map state_view l.states))) l.listed) l.order;
  keys : keys_of g.T.EntryLike.answers l.entries.items ++ keys_listed (style_context_view l.context) (map (option_map (listed_view g.T.EntryLike.answers (map state_view l.states))) l.listed) (drop l.entry_index-index l.order)
      ≡ keys_listed (style_context_view l.context) (map (option_map (listed_view g.T.EntryLike.answers (map state_view l.states))) l.listed) l.order;
  entries : length l.entries.items ≡ length l.trees.items;
  effort : l.effort ≤ l.initial.effort + l.entry_index-index;
}
