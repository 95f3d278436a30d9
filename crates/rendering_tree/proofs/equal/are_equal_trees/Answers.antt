use Rattle.std.proofs.Common.{sym, ◌∙◌}
use Rattle.rendering_tree.specs.Same.{are_children}
use Rattle.rendering_tree.specs.Views.{tree_view}
use Rattle.rendering_tree.specs.contracts.element.ElemChildrenPartialEq.TheImpl as list
use Rattle.rendering_tree.proofs.ViewsEquality.{agreed, Shows-ElemChildren}
use Rattle.rendering_tree.proofs.SameDecided.{Decides-are_children}
use Rattle.rendering_tree.proofs.equal.are_equal_trees.Goals as goal

pub returns-clause-same : goal.returns-clause-same
returns-clause-same c =
    let a = c.args.a.now in
    let b = c.args.b.now in
    c.eq.ensures ∙ agreed (list.ghosts.eq a b) (are_children (tree_view a) (tree_view b)) (Shows-ElemChildren a b) (Decides-are_children (tree_view a) (tree_view b))

pub returns-clause-equal : goal.returns-clause-equal
returns-clause-equal c =
    let d = Shows-ElemChildren c.args.a.now c.args.b.now in
    (λ h. d.0 (sym c.eq.ensures ∙ h), λ e. c.eq.ensures ∙ d.1 e)
