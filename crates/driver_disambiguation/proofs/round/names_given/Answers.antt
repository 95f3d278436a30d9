use Rattle.std.proofs.Common.{◌++◌, ap, ◌∙◌, Vec}
use Rattle.std.specs.Global.{Global}
use Rattle.std.specs.Borrow.{Bor}
use Rattle.driver_names.specs.FirstNames.{first_origin}
use Rattle.driver_names.specs.Names.{states_by_names}
use Rattle.driver_names.specs.Views.{class_view, given_states_view}
use Rattle.driver_names.specs.declared.printed.Printed.{Printed}
use Rattle.driver_disambiguation.proofs.Lists.{flat_step_at}
use Rattle.driver_disambiguation.proofs.round.names_given.Goals as goal

pub loop-class-preserved : goal.loop-class-preserved
loop-class-preserved c =
    flat_step_at (states_by_names c.args.adds_names first_origin) (λ (v : Vec (Bor Printed) Global). class_view v.items) c.args.classes.now c.loop-class.class-index c.class-item.result _ _
    c.loop-class-test.true c.loop-class.invariant c.class-item.is
    (c.in_ok-give_names.ensures ∙ ap (λ ss. given_states_view c.loop-class.given.items ++ states_by_names c.args.adds_names first_origin (class_view ss)) c.as_slice.ensures.value)
