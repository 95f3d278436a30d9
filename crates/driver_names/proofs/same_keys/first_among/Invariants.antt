use Rattle.std.proofs.Common.{◌≡◌, ◌+◌, drop}
use Rattle.std.specs.List.{position_or_len}
use Rattle.driver_names.proofs.same_keys.first_among.Given as goal

abbrev pub invariant-loop-index : goal.invariant-loop-index
invariant-loop-index g l =
    l.index + position_or_len (g.K.PartialEq.eq l.key) (drop l.index l.keys) ≡ position_or_len (g.K.PartialEq.eq l.key) l.keys
