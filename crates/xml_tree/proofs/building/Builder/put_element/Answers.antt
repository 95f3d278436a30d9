use Rattle.std.proofs.Common.{◌≡◌, List, [], Some, sym, ap, ◌∙◌}
use Rattle.std.proofs.lemmas.Result.{on_ok_weaker}
use Rattle.xml_tree.specs.Building.{Open, State, state, ended}
use Rattle.xml_tree.specs.Views.{element_view, state_view}
use Rattle.xml_tree.proofs.building.Builder.put_element.Goals as goal

pub returns-in-Some : goal.returns-in-Some
returns-in-Some c =
    let e = element_view c.args.element in
    on_ok_weaker c.put_child.result (λ h. h ∙ sym (ap (λ (s : State). ended s.root e s.open_ones) c.in-Some.ensures)) c.put_child.ensures

pub returns-in-None : goal.returns-in-None
returns-in-None c =
    let s = state_view c.args.self.now in
    let n = state_view c.take_open.new.self in
    let e = element_view c.args.element in
    let none : n.open_ones ≡ [] = ap (λ (x : State). x.open_ones) c.in-None.ensures.1 ∙ c.in-None.ensures.0 in
    ap (λ (os : List Open). state os (Some e)) none ∙ sym (ap (λ (os : List Open). ended s.root e os) c.in-None.ensures.0)
