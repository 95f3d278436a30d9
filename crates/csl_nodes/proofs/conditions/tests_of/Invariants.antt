use Rattle.std.proofs.Common.{◌≡◌, map, take}
use Rattle.std.specs.List.{flat_map}
use Rattle.rendering_style.specs.Views.{test_view}
use Rattle.xml_tree.specs.Views.{element_view}
use Rattle.csl_words.specs.Looking.{table_view}
use Rattle.csl_nodes.specs.Conditions.{tests_by}
use Rattle.csl_nodes.proofs.conditions.tests_of.Given as goal

abbrev pub invariant-loop-row : goal.invariant-loop-row
invariant-loop-row l = map test_view l.tests.items ≡ flat_map (tests_by (element_view l.element)) (table_view (take l.row-index l.rows))
