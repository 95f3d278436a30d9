use Rattle.std.proofs.Common.{◌≡◌, drop, map}
use Rattle.std.specs.List.{list_all}
use Rattle.rendering_style.specs.Views.{test_view}
use Rattle.rendering_context.specs.Choosing.{holds}
use Rattle.rendering_context.specs.Views.{context_view}
use Rattle.rendering_context.proofs.context.Context.all_hold.Given as goal

abbrev pub invariant-loop-test : goal.invariant-loop-test
invariant-loop-test g l =
    list_all (holds (context_view (g.E.EntryLike.answers l.entry) l.self)) (map test_view (drop l.test-index l.tests))
    ≡ list_all (holds (context_view (g.E.EntryLike.answers l.entry) l.self)) (map test_view l.tests)
