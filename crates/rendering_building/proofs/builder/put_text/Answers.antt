use Rattle.std.proofs.Common.{sym, ◌∙◌}
use Rattle.rendering_building.proofs.BuildingLevels.{put_after}
use Rattle.rendering_building.proofs.builder.put_text.Goals as goal

pub returns : goal.returns
returns c =
    put_after c.args.text c.args.start c.args.children.now.items c.push.new.self.items c.requires.filled c.requires.within (sym c.joins_last.ensures.joins ∙ c.if-joins_last.false) c.in_ok-push.ensures.items
