use Rattle.std.proofs.Common.{ap, ◌∙◌}
use Rattle.rendering_leaves.specs.NodeSettings.{standing}
use Rattle.rendering_nodes.proofs.style_walk.Walk.ended.Goals as goal

pub returns : goal.returns
returns c = λ a. c.in_ok-stand.ensures ∙ ap standing (c.in_ok-end_bare.ensures a)
