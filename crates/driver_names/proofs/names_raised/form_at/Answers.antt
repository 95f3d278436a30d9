use Rattle.std.proofs.Common.{refl, sym, ap, ◌∙◌}
use Rattle.std.specs.Prelude.{slice_get}
use Rattle.std.proofs.lemmas.Option.{slice_get_past, slice_get_read}
use Rattle.driver_names.specs.NamesViews.{member_view}
use Rattle.driver_names.proofs.NamesakesCounted.{form_there, no_form_there}
use Rattle.driver_names.proofs.names_raised.form_at.Goals as goal

pub returns-in-Some : goal.returns-in-Some
returns-in-Some c = λ ms says.
    form_there ms c.args.index (member_view c.args.member.now) c.in-Some.person.now c.form_among.result
    (ap (λ people. slice_get people c.args.index) (sym c.deref.ensures.value) ∙ slice_get_read c.deref.result.now _ c.args.index c.in-Some.person.now refl c.in-Some.ensures.lookup.3.0 c.in-Some.ensures.lookup.1)
    (c.form_among.ensures ms says)

pub returns-in-None : goal.returns-in-None
returns-in-None c = λ ms says.
    no_form_there ms c.args.index (member_view c.args.member.now) (ap (λ people. slice_get people c.args.index) (sym c.deref.ensures.value) ∙ slice_get_past c.deref.result.now c.args.index c.in-None.ensures.lookup.3)
