use Rattle.std.proofs.Common.{◌≡◌, ◌≤◌, length, take}
use Rattle.std.specs.Option.{option_map}
use Rattle.laws.specs.Text.{spelled}
use Rattle.xml_tree.specs.Building.{scope_of}
use Rattle.xml_tree.specs.Views.{opens_of}
use Rattle.xml_tree.proofs.building.found_around.Given as goal

abbrev pub invariant-loop-count : goal.invariant-loop-count
invariant-loop-count l = record {
  few : l.count ≤ length l.opens;
  same : scope_of (opens_of (take l.count l.opens)) (option_map spelled l.prefix) ≡ scope_of (opens_of l.opens) (option_map spelled l.prefix);
}

abbrev pub decreases-loop-count : goal.decreases-loop-count
decreases-loop-count l = l.count
