use Rattle.std.proofs.Common.{◌≡◌}
use Rattle.xml_schema.specs.Faults.{first_of}
use Rattle.xml_schema.specs.Waiting.{waiting_faults, waiting_weight}
use Rattle.xml_schema.specs.Views.{waiting_list}
use Rattle.xml_schema.proofs.finding.find.Given as goal

abbrev pub invariant-loop-last : goal.invariant-loop-last
invariant-loop-last l = first_of (waiting_faults l.schema (waiting_list l.waiting)) ≡ first_of (waiting_faults l.schema (waiting_list l.initial.waiting))

abbrev pub decreases-loop-last : goal.decreases-loop-last
decreases-loop-last l = waiting_weight (waiting_list l.waiting)
