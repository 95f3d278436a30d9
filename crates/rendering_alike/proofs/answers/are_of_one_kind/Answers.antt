use Rattle.std.proofs.Common.{◌≡◌, arith}
use Rattle.rendering_taxonomy.specs.declared.kind.Kind.{Kind}
use Rattle.rendering_alike.proofs.AnswersAll.{none_left, not_this, one_less}
use Rattle.rendering_alike.proofs.answers.are_of_one_kind.Goals as goal

pub loop-kind-init : goal.loop-kind-init
loop-kind-init g c = (λ h. h, λ h. h)

pub loop-kind-preserved : goal.loop-kind-preserved
loop-kind-preserved g c =
    one_less (λ (k : Kind). (g.E.EntryLike.answers c.args.one.now).kind k ≡ (g.E.EntryLike.answers c.args.other.now).kind k) c.args.kinds.now c.loop-kind.kind-index c.loop-kind.invariant
    _ c.is_kind_of_both.result c.loop-kind-test.true c.is_kind_of_both.ensures c.if-not-is_kind_of_both.false

pub returns-then-not-is_kind_of_both : goal.returns-then-not-is_kind_of_both
returns-then-not-is_kind_of_both g c =
    not_this (λ (k : Kind). (g.E.EntryLike.answers c.args.one.now).kind k ≡ (g.E.EntryLike.answers c.args.other.now).kind k) c.args.kinds.now c.loop-kind.kind-index c.loop-kind.invariant
    _ c.is_kind_of_both.result c.loop-kind-test.true c.is_kind_of_both.ensures c.if-not-is_kind_of_both.true

pub returns : goal.returns
returns g c =
    none_left (λ (k : Kind). (g.E.EntryLike.answers c.args.one.now).kind k ≡ (g.E.EntryLike.answers c.args.other.now).kind k) c.args.kinds.now c.loop-kind.kind-index c.loop-kind.invariant
    (omega (arith, c.loop-kind-test.false))
