use Rattle.std.proofs.Common.{◌≡◌, take}
use Rattle.std.specs.Prelude.{count_by}
use Rattle.driver_names.specs.Keys.{counted}
use Rattle.driver_names.proofs.same_keys.counts_of.Given as goal

abbrev pub invariant-loop-key : goal.invariant-loop-key
invariant-loop-key g l = (q : g.row.K.Denot) → counted g.K.PartialEq.eq l.counts q ≡ count_by (g.K.PartialEq.eq q) (take l.key-index l.keys)
