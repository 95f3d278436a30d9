use Rattle.std.proofs.Common.{◌≡◌, drop, map}
use Rattle.rendering_nodes.specs.Named.{named_in_tests}
use Rattle.rendering_style.specs.Views.{test_view}
use Rattle.rendering_alike.specs.Naming.{names_view, with_named}
use Rattle.rendering_alike.proofs.names.add_tests.Given as goal

abbrev pub invariant-loop-test : goal.invariant-loop-test
invariant-loop-test l =
    with_named (names_view l.found) (named_in_tests (map test_view (drop l.test-index l.tests))) ≡ with_named (names_view l.initial.found) (named_in_tests (map test_view l.tests))
