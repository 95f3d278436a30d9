use Rattle.std.proofs.Common.{◌≡◌, take}
use Rattle.std.specs.Prelude.{filter_map, position}
use Rattle.laws.specs.Borrowed.{borrowed}
use Rattle.driver_requests.proofs.cited.Cited.indices.Given as goal

abbrev pub invariant-loop-entry : goal.invariant-loop-entry
invariant-loop-entry g l = l.indices.items ≡ filter_map (λ e. position (g.T.PartialEq.eq e) (borrowed l.self.entries.items)) (borrowed (take l.entry-index l.entries))
