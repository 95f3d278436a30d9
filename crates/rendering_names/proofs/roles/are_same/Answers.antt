use Rattle.std.proofs.Common.{◌<◌, ◌≤◌, length, sym, ◌∙◌, arith}
use Rattle.rendering_names.proofs.RolesSteps.{all_same, differ, goes_on, not_as_many}
use Rattle.rendering_names.proofs.roles.are_same.Goals as goal

pub returns-then-people-others : goal.returns-then-people-others
returns-then-people-others c = not_as_many c.args.people.now c.args.others.now c.if-people-others.true

pub returns-then-not-is_same : goal.returns-then-not-is_same
returns-then-not-is_same c =
    let less : c.loop-index.index < length c.args.people.now = omega (arith, c.loop-index-test.true) in
    let below : c.loop-index.index < length c.args.others.now = omega (arith, less, c.if-people-others.false) in
    differ c.args.people.now c.args.others.now c.loop-index.index c.index-people-index.result c.index-others-index.result _ less below c.index-people-index.is c.index-others-index.is
    (sym c.is_same.ensures ∙ c.if-not-is_same.true) c.loop-index.invariant

pub loop-index-preserved : goal.loop-index-preserved
loop-index-preserved c =
    let less : c.loop-index.index < length c.args.people.now = omega (arith, c.loop-index-test.true) in
    let below : c.loop-index.index < length c.args.others.now = omega (arith, less, c.if-people-others.false) in
    goes_on c.args.people.now c.args.others.now c.loop-index.index c.index-people-index.result c.index-others-index.result _ less below c.index-people-index.is c.index-others-index.is
    (sym c.is_same.ensures ∙ c.if-not-is_same.false) c.loop-index.invariant

pub returns : goal.returns
returns c =
    let past : length c.args.people.now ≤ c.loop-index.index = omega (arith, c.loop-index-test.false) in
    all_same c.args.people.now c.args.others.now c.loop-index.index _ past c.if-people-others.false c.loop-index.invariant
