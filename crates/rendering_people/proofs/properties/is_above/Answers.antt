use Rattle.std.proofs.Common.{sym, ◌∙◌}
use Rattle.std.proofs.lemmas.List.{nil_from_length}
use Rattle.rendering_people.proofs.CountsSteps.{above_end}
use Rattle.rendering_people.proofs.properties.is_above.Goals as goal

pub returns-in_default : goal.returns-in_default
returns-in_default c =
    sym (above_end c.args.forms.now c.loop-form.left.now c.loop-form.form-index c.loop-form-test.true (nil_from_length c.loop-form.left.now c.in_default.ensures.cases))
    ∙ c.loop-form.invariant
