use Rattle.std.proofs.Common.{[], ◌∷◌, ap, ◌∙◌}
use Rattle.rendering_tree.specs.Views.{children_view}
use Rattle.rendering_tree.proofs.SimplifySteps.{children-append}
use Rattle.rendering_tree.proofs.ViewsLevels.{tree_rolled}
use Rattle.rendering_tree.proofs.element.ElemChildren.push.Goals as goal

pub returns-clause-ok : goal.returns-clause-ok
returns-clause-ok c =
    tree_rolled (record { 0 = c.push.new.self }) ∙ ap children_view c.in_ok-push.ensures.items ∙ children-append c.args.self.now.0.items (c.args.part ∷ [])
