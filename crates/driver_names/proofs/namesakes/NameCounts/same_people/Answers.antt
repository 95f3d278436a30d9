use Rattle.driver_names.specs.declared.namesakes.NamePart.TheVariants as parts
use Rattle.driver_names.proofs.NamesakesCounted.{part_counted}
use Rattle.driver_names.proofs.namesakes.NameCounts.same_people.Goals as goal

pub returns : goal.returns
returns c = λ ms says.
    part_counted parts.Whole c.args.self.now.whole ms c.args.scope c.part.result c.args.person.now c.count.result says.2 c.part.ensures c.count.ensures
