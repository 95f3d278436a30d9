use Rattle.std.proofs.Common.{nat_lt, ap, ◌∙◌}
use Rattle.driver_names.specs.FirstNames.{disambiguated_form}
use Rattle.driver_names.specs.Namesakes.{all_people}
use Rattle.driver_names.proofs.FirstSteps.{form_kept, form_disambiguated}
use Rattle.driver_names.proofs.people_disambiguated.form_first.Goals as goal

pub returns-then-namesakes_within-gt0 : goal.returns-then-namesakes_within-gt0
returns-then-namesakes_within-gt0 c = λ ms says.
    let alike = c.alike_namesakes_within-is_alike in
    form_disambiguated c.args.rule (all_people ms) c.args.person.now c.args.own c.disambiguated_form.result c.namesakes_within.result alike.result (c.namesakes_within.ensures ms says) (alike.ensures ms says)
    c.if-namesakes_within-gt0.true (c.disambiguated_form.ensures ∙ ap (λ whole. disambiguated_form whole (nat_lt 0 alike.result) c.args.own) c.prints_whole.ensures)

pub returns-else-namesakes_within-gt0 : goal.returns-else-namesakes_within-gt0
returns-else-namesakes_within-gt0 c = λ ms says.
    form_kept c.args.rule (all_people ms) c.args.person.now c.args.own c.namesakes_within.result (c.namesakes_within.ensures ms says) c.if-namesakes_within-gt0.false
