use Rattle.std.proofs.Common.{◌≡◌, ◌↔◌, drop}
use Rattle.std.specs.List.{AllByRecursion}
use Rattle.rendering_taxonomy.specs.declared.kind.Kind.{Kind}
use Rattle.rendering_alike.proofs.answers.are_of_one_kind.Given as goal

abbrev pub invariant-loop-kind : goal.invariant-loop-kind
invariant-loop-kind g l =
    AllByRecursion (λ (k : Kind). (g.E.EntryLike.answers l.one).kind k ≡ (g.E.EntryLike.answers l.other).kind k) (drop l.kind-index l.kinds)
    ↔ AllByRecursion (λ (k : Kind). (g.E.EntryLike.answers l.one).kind k ≡ (g.E.EntryLike.answers l.other).kind k) l.kinds
