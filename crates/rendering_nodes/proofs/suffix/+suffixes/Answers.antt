use Rattle.rendering_style.specs.StyleViews.{style_view}
use Rattle.rendering_nodes.proofs.SuffixSteps.{branches_have}
use Rattle.rendering_nodes.proofs.suffix.+suffixes.Goals as goal

pub has_suffix_in-returns-then-has_suffix_in_branches : goal.has_suffix_in-returns-then-has_suffix_in_branches
has_suffix_in-returns-then-has_suffix_in_branches t c =
    branches_have c.args.levels (style_view c.args.style.now).macros c.in-Choose.branches c.in-Choose.otherwise c.args.node.now c.deref-in-Choose.result.now c.has_suffix_in_branches.result
    c.if-levels-eq0.false c.in-Choose.is c.deref-in-Choose.ensures.value c.has_suffix_in_branches.ensures c.if-has_suffix_in_branches.true
