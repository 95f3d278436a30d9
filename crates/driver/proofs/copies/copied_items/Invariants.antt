use Rattle.std.proofs.Common.{◌≡◌, map, take}
use Rattle.driver.specs.RenderedViews.{held_item_view}
use Rattle.driver.proofs.copies.copied_items.Given as goal

abbrev pub invariant-loop-item : goal.invariant-loop-item
invariant-loop-item l = map held_item_view l.copies.items ≡ map held_item_view (take l.item-index l.items.items)
