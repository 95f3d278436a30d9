use Rattle.std.proofs.Common.{◌≡◌, ◌++◌, drop}
use Rattle.laws.specs.Text.{characters}
use Rattle.rendering_tree.specs.Views.{children_view}
use Rattle.driver_blocks.specs.Key.{children_key}
use Rattle.driver_blocks.proofs.key.+key.Given as goal

abbrev pub invariant-push_children-loop-part : goal.invariant-push_children-loop-part
invariant-push_children-loop-part l =
    characters l.key ++ children_key (children_view (drop l.part-index l.parts.0.items)) ≡ characters l.fn.key ++ children_key (children_view l.fn.parts.0.items)
