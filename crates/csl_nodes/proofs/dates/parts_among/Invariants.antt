use Rattle.std.proofs.Common.{◌≡◌, map, take}
use Rattle.std.specs.List.{filter_map}
use Rattle.rendering_locale.specs.Views.{part_view}
use Rattle.csl_nodes.specs.Dates.{date_part}
use Rattle.csl_nodes.proofs.Meant.{of_child}
use Rattle.csl_nodes.proofs.dates.parts_among.Given as goal

abbrev pub invariant-loop-child : goal.invariant-loop-child
invariant-loop-child l = map part_view l.parts.items ≡ filter_map (of_child date_part) (take l.child-index l.children)
