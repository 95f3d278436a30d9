use Rattle.std.proofs.Common.{sym, ◌∙◌}
use Rattle.rendering_tree.specs.Same.{is_element}
use Rattle.rendering_tree.specs.Views.{element_view}
use Rattle.rendering_tree.specs.contracts.element.ElemPartialEq.TheImpl as elem
use Rattle.rendering_tree.proofs.ViewsEquality.{agreed, Shows-Elem}
use Rattle.rendering_tree.proofs.SameDecided.{Decides-is_element}
use Rattle.rendering_tree.proofs.equal.are_equal_elements.Goals as goal

pub returns-clause-same : goal.returns-clause-same
returns-clause-same c =
    let a = c.args.a.now in
    let b = c.args.b.now in
    c.eq.ensures ∙ agreed (elem.ghosts.eq a b) (is_element (element_view a) (element_view b)) (Shows-Elem a b) (Decides-is_element (element_view a) (element_view b))

pub returns-clause-equal : goal.returns-clause-equal
returns-clause-equal c =
    let d = Shows-Elem c.args.a.now c.args.b.now in
    (λ h. d.0 (sym c.eq.ensures ∙ h), λ e. c.eq.ensures ∙ d.1 e)
