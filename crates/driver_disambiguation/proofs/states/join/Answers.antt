use Rattle.std.proofs.Common.{◌≡◌, false, slice_index_or, arith, ◌∙◌}
use Rattle.std.proofs.lemmas.List.{get_or_default}
use Rattle.rendering_context.specs.Views.{state_view}
use Rattle.driver_disambiguation.specs.Joining as joining
use Rattle.driver_disambiguation.proofs.JoiningStates.{joined_set}
use Rattle.driver_disambiguation.proofs.states.join.Goals as goal

pub returns-clause-states : goal.returns-clause-states
returns-clause-states c =
    let is_given = slice_index_or c.args.is_given.now.items c.args.entry false in
    let flag : c.index.result.now ≡ is_given =
    c.index.ensures ∙ get_or_default c.args.is_given.now.items c.args.entry c.index.result.now false (omega (arith, c.if-entry-states.false, c.requires)) in
    joined_set state_view c.args.states.now c.args.entry _ c.index-states-entry.result _ is_given (state_view c.args.state) (omega (arith, c.if-entry-states.false))
    (c.joined_with.ensures ∙ (λ k. joining.joined_with (flag k) (state_view (c.replace-earlier.ensures.value k)) (state_view c.args.state)))
