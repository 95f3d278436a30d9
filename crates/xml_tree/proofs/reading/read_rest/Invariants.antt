use Rattle.std.proofs.Common.{◌≡◌, length}
use Rattle.texts.specs.Views.{left}
use Rattle.xml_tree.specs.Building.{tree_from, first_state}
use Rattle.xml_tree.specs.Views.{state_view}
use Rattle.xml_tree.proofs.reading.read_rest.Given as goal

abbrev pub invariant-loop-builder : goal.invariant-loop-builder
invariant-loop-builder l = tree_from (state_view l.builder) (left l.reader) ≡ tree_from first_state (left l.fn.reader)

abbrev pub decreases-loop-builder : goal.decreases-loop-builder
decreases-loop-builder l = length (left l.reader)
