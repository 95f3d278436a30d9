use Rattle.std.proofs.Common.{◌≤◌, ◌-◌}
use Rattle.fault_lines.specs.Places.{IsPlace}
use Rattle.fault_lines.specs.Views.{place_view}
use Rattle.fault_lines.proofs.place.Place.onward.Given as goal

abbrev pub invariant-loop-place : goal.invariant-loop-place
invariant-loop-place l = record { place : IsPlace l.source (place_view l.place); within : l.place.at ≤ l.at }

abbrev pub decreases-loop-place : goal.decreases-loop-place
decreases-loop-place l = l.at - l.place.at
