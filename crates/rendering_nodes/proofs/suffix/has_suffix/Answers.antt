use Rattle.std.proofs.Common.{ap, ◌∙◌}
use Rattle.rendering_style.specs.StyleViews.{style_view}
use Rattle.rendering_nodes.specs.Named.{has_suffix}
use Rattle.rendering_nodes.proofs.OpenedSteps.{opened_all}
use Rattle.rendering_nodes.proofs.suffix.has_suffix.Goals as goal

pub returns : goal.returns
returns c = c.has_suffix_below.ensures ∙ ap has_suffix (opened_all (style_view c.args.style.now).macros c.args.nodes.now)
