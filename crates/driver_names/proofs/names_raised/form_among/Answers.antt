use Rattle.std.proofs.Common.{Some, None, cond, ap, sym, ◌∙◌}
use Rattle.driver_names.specs.NamesViews.{member_view}
use Rattle.driver_names.proofs.NamesakesCounted.{form_less, form_whole}
use Rattle.driver_names.proofs.names_raised.form_among.Goals as goal
use Rattle.rendering_taxonomy.specs.declared.name.DisambiguatedNameForm.TheVariants as forms

pub returns-then-has_alike_namesake : goal.returns-then-has_alike_namesake
returns-then-has_alike_namesake c = λ ms says.
    form_whole ms (member_view c.args.member.now) c.args.person.now c.has_alike_namesake.result (c.has_alike_namesake.ensures ms says) c.if-has_alike_namesake.true

pub returns-then-has_namesake : goal.returns-then-has_namesake
returns-then-has_namesake c = λ ms says.
    ap (λ b. cond b (Some forms.LongInitialized) None) (sym c.if-has_namesake.true)
    ∙ form_less ms (member_view c.args.member.now) c.args.person.now c.has_alike_namesake.result c.has_namesake.result (c.has_alike_namesake.ensures ms says) (c.has_namesake.ensures ms says) c.if-has_alike_namesake.false

pub returns-else-has_namesake : goal.returns-else-has_namesake
returns-else-has_namesake c = λ ms says.
    ap (λ b. cond b (Some forms.LongInitialized) None) (sym c.if-has_namesake.false)
    ∙ form_less ms (member_view c.args.member.now) c.args.person.now c.has_alike_namesake.result c.has_namesake.result (c.has_alike_namesake.ensures ms says) (c.has_namesake.ensures ms says) c.if-has_alike_namesake.false
