use Rattle.std.proofs.Common.{◌≡◌, arith}
use Rattle.rendering_taxonomy.specs.declared.variable.Variable.{Variable}
use Rattle.rendering_alike.proofs.AnswersAll.{none_left, not_this, one_less}
use Rattle.rendering_alike.proofs.answers.are_all_written_alike.Goals as goal

pub loop-variable-init : goal.loop-variable-init
loop-variable-init g c = (λ h. h, λ h. h)

pub loop-variable-preserved : goal.loop-variable-preserved
loop-variable-preserved g c =
    one_less (λ (v : Variable). (g.E.EntryLike.answers c.args.one.now).written v ≡ (g.E.EntryLike.answers c.args.other.now).written v) c.args.variables.now c.loop-variable.variable-index c.loop-variable.invariant
    _ c.in_ok-are_written_alike.field-0 c.loop-variable-test.true c.in_ok-are_written_alike.ensures c.if-not-branch.false

pub returns-then-not-branch : goal.returns-then-not-branch
returns-then-not-branch g c =
    not_this (λ (v : Variable). (g.E.EntryLike.answers c.args.one.now).written v ≡ (g.E.EntryLike.answers c.args.other.now).written v) c.args.variables.now c.loop-variable.variable-index c.loop-variable.invariant
    _ c.in_ok-are_written_alike.field-0 c.loop-variable-test.true c.in_ok-are_written_alike.ensures c.if-not-branch.true

pub returns : goal.returns
returns g c =
    none_left (λ (v : Variable). (g.E.EntryLike.answers c.args.one.now).written v ≡ (g.E.EntryLike.answers c.args.other.now).written v) c.args.variables.now c.loop-variable.variable-index c.loop-variable.invariant
    (omega (arith, c.loop-variable-test.false))
