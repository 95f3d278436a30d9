use Rattle.std.proofs.Common.{◌∷◌, ap, ◌∙◌}
use Rattle.std.proofs.lemmas.Result.{on_ok_weaker}
use Rattle.xml_tree.specs.Building.{Open, state}
use Rattle.xml_tree.specs.Views.{state_view}
use Rattle.xml_tree.proofs.Stacks.{child_put}
use Rattle.xml_tree.proofs.building.Builder.put_child.Goals as goal

pub returns : goal.returns
returns c =
    let s = state_view c.args.self.now in
    on_ok_weaker c.put_open.result
    (λ h. h ∙ ap (λ (o : Open). state (o ∷ s.open_ones) s.root) (child_put c.args.outer c.push_ended.new.children c.take_text-before.result c.take_text-before.new.text c.args.element c.in_ok-push_ended.ensures c.take_text-before.ensures.taken c.take_text-before.ensures.left))
    c.put_open.ensures
