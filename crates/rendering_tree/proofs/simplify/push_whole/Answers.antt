use Rattle.rendering_tree.proofs.SimplifySteps.{puts_whole}
use Rattle.rendering_tree.proofs.simplify.push_whole.Goals as goal

pub returns : goal.returns
returns c = puts_whole c.args.simple.now.items c.push.new.self.items c.args.part c.requires c.in_ok-push.ensures.items
