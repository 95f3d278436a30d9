use Rattle.std.proofs.Common.{set, get_or, ap, refl, ◌∙◌}
use Rattle.rendering_context.specs.Views.{state_view}
use Rattle.rendering_tree.proofs.SimplifySteps.{on_ok}
use Rattle.rendering.specs.Views.{rendering_view}
use Rattle.driver_disambiguation.specs.CitesViews.{printed_cites_view}
use Rattle.driver_rounds.specs.CitesInStep.{styled_view}
use Rattle.driver_rounds.proofs.AgainSteps.{again_is}
use Rattle.driver_rounds.proofs.RunsSteps.{one_counted}
use Rattle.driver_rounds.proofs.rounds.print_by.Goals as goal

pub returns-clause-printed : goal.returns-clause-printed
returns-clause-printed g c =
    let ss = printed_cites_view c.args.printed.now in
    on_ok c.print_by.result
    (λ e d. e d
    ∙ ap (set ss c.args.at)
    (again_is (styled_view g.T.EntryLike.answers c.args.cite) (get_or ss c.args.at d) _ (state_view c.in_ok-clone.field-0) (state_view c.in_ok-clone-2.field-0)
    (state_view c.args.state.now) (rendering_view c.in_ok-rendering.rendering) c.in_ok-clone.ensures c.in_ok-clone-2.ensures c.in_ok-rendering.ensures.prints refl))
    c.print_by.ensures

pub returns-clause-effort : goal.returns-clause-effort
returns-clause-effort g c = one_counted c.args.effort.now c.printed_by.new.effort c.printed_by.ensures.effort

pub returns-in_err-rendering-clause-effort : goal.returns-in_err-rendering-clause-effort
returns-in_err-rendering-clause-effort g c = one_counted c.args.effort.now c.printed_by.new.effort c.printed_by.ensures.effort

pub returns-in_err-clone-2-clause-effort : goal.returns-in_err-clone-2-clause-effort
returns-in_err-clone-2-clause-effort g c = one_counted c.args.effort.now c.printed_by.new.effort c.printed_by.ensures.effort
