use Rattle.driver_names.specs.Namesakes.{people_within}
use Rattle.driver_names.specs.declared.namesakes.NamePart.TheVariants as parts
use Rattle.driver_names.proofs.NamesakesCounted.{namesakes_left, part_counted}
use Rattle.driver_names.proofs.namesakes.NameCounts.namesakes_within.Goals as goal

pub returns : goal.returns
returns c = λ ms says.
    namesakes_left c.args.person.now (people_within c.args.scope ms) c.saturating_sub.result c.count.result c.same_people.result c.saturating_sub.ensures
    (part_counted parts.Family c.args.self.now.families ms c.args.scope c.part.result c.args.person.now c.count.result says.0 c.part.ensures c.count.ensures) (c.same_people.ensures ms says)
