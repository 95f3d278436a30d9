use Rattle.xml_schema.proofs.Waits.{waiting_popped}
use Rattle.xml_schema.proofs.finding.take_last.Goals as goal

pub returns : goal.returns
returns c = waiting_popped c.args.waiting.now c.pop.new.self c.pop.result c.pop.ensures.items c.pop.ensures.cases
