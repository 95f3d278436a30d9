use Rattle.rendering_tree.proofs.SimplifySteps.{put_both}
use Rattle.rendering_tree.proofs.simplify.push_both.Goals as goal

pub returns : goal.returns
returns c = put_both c.args.simple.now.items c.push.new.self.items c.push-2.new.self.items c.args.first c.args.text c.in_ok-push.ensures.items c.in_ok-push-2.ensures.items
