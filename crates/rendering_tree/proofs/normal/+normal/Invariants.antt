use Rattle.std.proofs.Common.{◌≡◌, drop}
use Rattle.rendering_tree.specs.Laws.{is_normal}
use Rattle.rendering_tree.specs.Normal.{is_normal_after}
use Rattle.rendering_tree.specs.Views.{children_view}
use Rattle.rendering_tree.proofs.normal.+normal.Given as goal

abbrev pub invariant-is_normal-loop-part : goal.invariant-is_normal-loop-part
invariant-is_normal-loop-part l = is_normal_after l.look (children_view (drop l.part-index l.parts.0.items)) ≡ is_normal (children_view l.parts.0.items)
