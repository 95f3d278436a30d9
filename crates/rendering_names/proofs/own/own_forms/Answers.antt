use Rattle.std.proofs.Common.{◌∙◌}
use Rattle.rendering_names.proofs.OwnSteps.{forms_more}
use Rattle.rendering_names.proofs.own.own_forms.Goals as goal

pub loop-answered-preserved : goal.loop-answered-preserved
loop-answered-preserved c =
    forms_more c.args.people.now c.loop-answered.answered-index c.answered-item.result c.args.form c.len.result c.loop-answered.forms.items c.push_forms.new.forms.items
    c.loop-answered-test.true c.answered-item.is (c.len.ensures ∙ c.answered-item.result.people.ok.0) c.loop-answered.invariant c.in_ok-push_forms.ensures
