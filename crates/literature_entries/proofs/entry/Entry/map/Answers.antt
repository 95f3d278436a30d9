use Rattle.literature_entries.proofs.AncestorsWalks.{asks_answered, asked_on}
use Rattle.literature_entries.proofs.entry.Entry.map.Goals as goal

pub returns-in-Some : goal.returns-in-Some
returns-in-Some g c = record { last = c.f.new.self; asked = asks_answered _ c.args.f c.f.new.self c.args.self c.f.result _ c.in-Some.answer c.f.ensures c.in-Some.is }

pub returns : goal.returns
returns g c = asked_on _ c.args.f c.f.new.self c.args.self c.f.result _ c.map_parents.result c.f.ensures c.in_default.is c.map_parents.ensures
