use Rattle.std.proofs.Common.{◌≡◌, ◌++◌, map, take}
use Rattle.std.specs.List.{filter_map}
use Rattle.laws.specs.Borrowed.{borrowed}
use Rattle.rendering_style.specs.Views.{test_view}
use Rattle.csl_nodes.specs.Conditions.{test_of}
use Rattle.csl_nodes.proofs.conditions.push_tests.Given as goal

abbrev pub invariant-loop-word : goal.invariant-loop-word
invariant-loop-word l = map test_view l.tests.items ≡ map test_view l.initial.tests.items ++ filter_map (test_of l.question) (borrowed (take l.word-index l.words))
