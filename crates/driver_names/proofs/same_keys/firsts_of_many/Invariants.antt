use Rattle.std.proofs.Common.{◌≡◌, map, take}
use Rattle.std.specs.List.{position_or_len}
use Rattle.driver_names.specs.Keys.{IsIndex}
use Rattle.driver_names.proofs.same_keys.firsts_of_many.Given as goal

abbrev pub invariant-loop-index : goal.invariant-loop-index
invariant-loop-index g l =
    IsIndex g.K.PartialEq.eq l.table (take l.index l.keys) × (l.firsts.items ≡ map (λ k. position_or_len (g.K.PartialEq.eq k) l.keys) (take l.index l.keys))
