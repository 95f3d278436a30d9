use Rattle.std.proofs.Common.{sym, ◌∙◌}
use Rattle.rendering_people.proofs.RaisedWhole.{like_goes_on, like_is}
use Rattle.rendering_people.proofs.raising.forms_like.Goals as goal

pub loop-other-preserved : goal.loop-other-preserved
loop-other-preserved c =
    like_goes_on c.args.count c.args.others.now c.loop-other.rest.now c.split_forms.result.1.now c.loop-other.other-index _ c.loop-other-test.true
    (sym c.is_same_count.ensures ∙ c.if-is_same_count.false) c.split_forms.ensures.others
    ∙ c.loop-other.invariant

pub returns-then-is_same_count : goal.returns-then-is_same_count
returns-then-is_same_count c =
    like_is c.args.count c.args.others.now c.loop-other.rest.now c.split_forms.result.0.now c.loop-other.other-index _ c.loop-other-test.true
    (sym c.is_same_count.ensures ∙ c.if-is_same_count.true) c.split_forms.ensures.first
    ∙ c.loop-other.invariant
