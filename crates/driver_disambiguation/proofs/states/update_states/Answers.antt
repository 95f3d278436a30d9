use Rattle.std.proofs.Common.{arith}
use Rattle.rendering_context.specs.Views.{state_view}
use Rattle.driver_names.specs.Views.{given_view}
use Rattle.driver_disambiguation.proofs.JoiningStates.{ends, flags_end, goes_on}
use Rattle.driver_disambiguation.proofs.states.update_states.Goals as goal

pub loop-one-preserved : goal.loop-one-preserved
loop-one-preserved c =
    goes_on state_view given_view c.args.states.now c.loop-one.states _ c.loop-one.is_given.items _ c.args.given.now c.loop-one.one-index c.one-item.result (state_view c.in_ok-state.state)
    c.loop-one-test.true c.one-item.is c.loop-one.invariant c.in_ok-state.ensures c.join.ensures.states c.join.ensures.is_given

pub returns-clause-states : goal.returns-clause-states
returns-clause-states c =
    ends state_view given_view c.args.states.now c.loop-one.states c.loop-one.is_given.items c.args.given.now c.loop-one.one-index (omega (arith, c.loop-one-test.false)) c.loop-one.invariant

pub returns-clause-given : goal.returns-clause-given
returns-clause-given c =
    flags_end state_view given_view c.args.states.now c.loop-one.states c.loop-one.is_given.items c.args.given.now c.loop-one.one-index (omega (arith, c.loop-one-test.false)) c.loop-one.invariant
