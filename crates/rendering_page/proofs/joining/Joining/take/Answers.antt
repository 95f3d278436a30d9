use Rattle.std.proofs.Common.{[], sym, ap, ◌∙◌}
use Rattle.std.proofs.lemmas.Result.{on_ok_weaker}
use Rattle.rendering_page.specs.Joints.{joining}
use Rattle.rendering_page.specs.Views.{with_piece}
use Rattle.rendering_page.proofs.joining.Joining.take.Goals as goal

pub returns-in-Link : goal.returns-in-Link
returns-in-Link c =
    on_ok_weaker c.take_link.result (λ e. e ∙ ap (λ p. joining c.args.inside (with_piece [] p) c.args.self.now) (sym c.in-Link.is)) (c.take_link.ensures c.args.inside)
