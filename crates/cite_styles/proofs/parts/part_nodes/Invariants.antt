use Rattle.std.proofs.Common.{◌≡◌, map, take}
use Rattle.rendering_style.specs.Views.{node_view}
use Rattle.cite_styles.specs.Parts.{part_node}
use Rattle.cite_styles.proofs.parts.part_nodes.Given as goal

abbrev pub invariant-loop-part : goal.invariant-loop-part
invariant-loop-part l = map node_view l.nodes.items ≡ map part_node (take l.part-index l.parts)
