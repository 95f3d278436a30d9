use Rattle.std.proofs.Common.{sym, ap, ◌∙◌}
use Rattle.std.proofs.lemmas.Result.{on_ok_weaker}
use Rattle.rendering_page.specs.Joints.{Joining}
use Rattle.rendering_page.proofs.JoiningSteps.{first_elsewhere, first_spaced}
use Rattle.rendering_page.proofs.joining.Joining.begin.Goals as goal

pub returns-then-self : goal.returns-then-self
returns-then-self c = λ cs is.
    on_ok_weaker c.meet_gap.result
    (λ e.
    first_spaced c.args.inside c.args.formatting c.args.first cs c.args.self.now c.meet_gap.new.self (ap (λ (j : Joining). j.is_spaced) (sym c.self.view_is) ∙ c.if-self.true) e)
    (c.meet_gap.ensures cs is)

pub returns : goal.returns
returns c = λ cs is.
    on_ok_weaker c.meet.result
    (λ e.
    first_elsewhere c.args.inside c.args.formatting c.args.first cs c.args.self.now c.meet.new.self (ap (λ (j : Joining). j.is_spaced) (sym c.self.view_is) ∙ c.if-self.false) e)
    (c.meet.ensures cs is)
