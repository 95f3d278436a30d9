use Rattle.laws.specs.Text.{characters}
use Rattle.rendering_building.proofs.BuildingLevels.{joined_at_last}
use Rattle.rendering_building.proofs.builder.join_last.Goals as goal

pub returns-in_ok-push-in-Some : goal.returns-in_ok-push-in-Some
returns-in_ok-push-in-Some c = λ start filled inside joins_it.
    joined_at_last c.args.text.formatting (characters c.args.text.text) start c.args.children.now.items c.pop.new.self.items c.push.new.self.items c.in-Some.next c.in_ok-joined_child-in-Some.field-0 filled inside joins_it c.in-Some.ensures.items
    c.in_ok-push-in-Some.ensures.items c.in_ok-joined_child-in-Some.ensures
