use Rattle.std.proofs.Common.{◌≡◌, true, Ok, sym, ap, ◌∙◌}
use Rattle.xml_text.specs.Views.{name_view}
use Rattle.xml_tree.specs.Building.{State, ended}
use Rattle.xml_tree.specs.Scope.{same_name}
use Rattle.xml_tree.specs.Trees.{Element}
use Rattle.xml_tree.specs.Views.{state_view}
use Rattle.xml_tree.proofs.building.Builder.close.Goals as goal

pub returns : goal.returns
returns c =
    let s = state_view c.args.self.now in
    let same : same_name (name_view c.args.name.v) (name_view c.args.inner.written) ≡ true = sym c.same_name.ensures ∙ c.if-not-same_name.false in
    rw same (ap (λ (n : State). Ok n) (sym (c.in_ok-put_element.ensures ∙ ap (λ (e : Element). ended s.root e s.open_ones) c.element_of.ensures)))
