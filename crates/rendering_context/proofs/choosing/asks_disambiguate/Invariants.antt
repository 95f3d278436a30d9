use Rattle.std.proofs.Common.{◌≡◌, drop, map}
use Rattle.std.specs.List.{list_any}
use Rattle.rendering_style.specs.Views.{test_view}
use Rattle.rendering_context.specs.Choosing.{is_disambiguate}
use Rattle.rendering_context.proofs.choosing.asks_disambiguate.Given as goal

abbrev pub invariant-loop-test : goal.invariant-loop-test
invariant-loop-test l = list_any is_disambiguate (map test_view (drop l.test-index l.condition.tests.items)) ≡ list_any is_disambiguate (map test_view l.condition.tests.items)
