use Rattle.std.proofs.Common.{◌≡◌, map, take}
use Rattle.rendering_tree.specs.Views.{child_view}
use Rattle.rendering_tree.proofs.copies.+copy.Given as goal

abbrev pub invariant-copy_children-loop-part : goal.invariant-copy_children-loop-part
invariant-copy_children-loop-part l = map child_view l.copies.items ≡ map child_view (take l.part-index l.parts.0.items)
