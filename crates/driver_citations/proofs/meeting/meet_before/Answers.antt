use Rattle.std.proofs.Common.{ap, ◌∙◌}
use Rattle.std.proofs.lemmas.Result.{IfOk-weaker, on_ok_weaker}
use Rattle.laws.specs.Text.{characters}
use Rattle.driver_citations.specs.Meeting.{met_by, without_last}
use Rattle.driver_citations.proofs.meeting.meet_before.Goals as goal

pub returns-clause-text : goal.returns-clause-text
returns-clause-text c =
    let left = c.cut.ensures ∙ ap (λ n. without_last n (characters c.args.own.now)) c.char_count.ensures in
    on_ok_weaker c.meet_by.result (λ e. e ∙ (λ i. (met_by (c.has_text.ensures i) (left i) c.args.c).text)) c.meet_by.ensures.text

pub returns-clause-taken : goal.returns-clause-taken
returns-clause-taken c =
    let left = c.cut.ensures ∙ ap (λ n. without_last n (characters c.args.own.now)) c.char_count.ensures in
    IfOk-weaker c.meet_by.result _ _ (λ b e. e ∙ (λ i. (met_by (c.has_text.ensures i) (left i) c.args.c).is_taken)) c.meet_by.ensures.taken
