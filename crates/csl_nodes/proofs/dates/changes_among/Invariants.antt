use Rattle.std.proofs.Common.{◌≡◌, map, take}
use Rattle.std.specs.List.{filter_map}
use Rattle.rendering_style.specs.Views.{part_change_view}
use Rattle.csl_nodes.specs.Dates.{part_change}
use Rattle.csl_nodes.proofs.Meant.{of_child}
use Rattle.csl_nodes.proofs.dates.changes_among.Given as goal

abbrev pub invariant-loop-child : goal.invariant-loop-child
invariant-loop-child l = map part_change_view l.changes.items ≡ filter_map (of_child part_change) (take l.child-index l.children)
