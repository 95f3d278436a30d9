use Rattle.std.proofs.Common.{◌≡◌, map, take}
use Rattle.rendering_tree.specs.Views.{answered_view}
use Rattle.rendering_tree.proofs.copies.copy_names.Given as goal

abbrev pub invariant-loop-people : goal.invariant-loop-people
invariant-loop-people l = map answered_view l.copies.items ≡ map answered_view (take l.people-index l.names.items)
