use Rattle.std.proofs.Common.{◌≡◌, ◌+◌, ◌∙◌, ap, map, drop}
use Rattle.literature.specs.Bindings.{set, settle}
use Rattle.literature.specs.BoundNames.{binding_view}
use Rattle.literature.specs.Found.{named, all_named}
use Rattle.literature.proofs.BindingsNames.{settles_next}
use Rattle.literature.proofs.bindings.Bindings.settled.Goals as goal

pub loop-named-preserved : goal.loop-named-preserved
loop-named-preserved c =
    let rest = drop (c.loop-named.named-index + 1) (all_named c.args.found.now) in
    let before = map binding_view c.loop-named.entries.items in
    let put : map binding_view c.bind.new.entries.items ≡ set (named c.named-item.result) before = c.in_ok-bind.ensures.entries in
    (ap (λ done. settle done rest) put ∙ (settles_next c.args.found.now c.loop-named.named-index c.named-item.result before c.loop-named-test.true c.named-item.is ∙ c.loop-named.invariant.0), c.in_ok-bind.ensures.indices)
