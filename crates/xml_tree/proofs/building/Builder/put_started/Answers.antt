use Rattle.std.proofs.Common.{ap, ◌∙◌}
use Rattle.std.proofs.lemmas.Result.{on_ok_weaker}
use Rattle.xml_tree.specs.Building.{ended}
use Rattle.xml_tree.specs.Trees.{Element}
use Rattle.xml_tree.specs.Views.{state_view}
use Rattle.xml_tree.proofs.building.Builder.put_started.Goals as goal

pub returns-then-empty : goal.returns-then-empty
returns-then-empty c =
    let s = state_view c.args.self.now in
    rw c.if-empty.true (on_ok_weaker c.put_element.result (λ h. h ∙ ap (λ (e : Element). ended s.root e s.open_ones) c.element_of.ensures) c.put_element.ensures)

pub returns-else-empty : goal.returns-else-empty
returns-else-empty c = rw c.if-empty.false c.put_open.ensures
