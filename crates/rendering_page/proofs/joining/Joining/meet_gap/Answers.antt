use Rattle.std.proofs.Common.{sym, ◌∙◌}
use Rattle.std.proofs.lemmas.Result.{on_ok_weaker}
use Rattle.rendering_page.specs.Views.{words_view}
use Rattle.rendering_page.proofs.JoiningSteps.{gap_left_out, gap_replaced, gap_stays}
use Rattle.rendering_page.proofs.joining.Joining.meet_gap.Goals as goal

pub returns-then-is_left_out : goal.returns-then-is_left_out
returns-then-is_left_out c = λ cs is.
    on_ok_weaker c.go_on.result
    (λ e.
    gap_left_out c.args.inside c.args.formatting c.args.first cs c.args.self.now c.go_on.new.self (sym c.is_left_out.ensures ∙ c.if-is_left_out.true) e)
    (c.go_on.ensures c.args.first cs is)

pub returns-then-is_replaced : goal.returns-then-is_replaced
returns-then-is_replaced c = λ cs is.
    on_ok_weaker c.meet.result
    (λ e.
    gap_replaced c.args.inside c.args.formatting c.args.first cs c.args.self.now c.cut_gap.new.self c.meet.new.self (sym c.is_left_out.ensures ∙ c.if-is_left_out.false)
    (sym c.is_replaced.ensures ∙ c.if-is_replaced.true) c.cut_gap.ensures e)
    (c.meet.ensures cs is)

pub returns : goal.returns
returns c = λ cs is.
    on_ok_weaker c.put_text.result
    (λ e.
    gap_stays c.args.inside c.args.formatting c.args.first cs (words_view c.args.words) c.args.self.now c.put_text.new.self (sym c.is_left_out.ensures ∙ c.if-is_left_out.false)
    (sym c.is_replaced.ensures ∙ c.if-is_replaced.false) is e)
    c.put_text.ensures
