use Rattle.driver_disambiguation.proofs.Groups.{set_under}
use Rattle.driver_disambiguation.proofs.classes.add.Goals as goal

pub returns-clause-members : goal.returns-clause-members
returns-clause-members c =
    λ n. set_under c.args.members.now.items c.args.number n c.index_mut.result.now c.push-2.new.self c.args.cite c.requires c.index_mut.ensures.value c.in_ok-push-2.ensures.items
