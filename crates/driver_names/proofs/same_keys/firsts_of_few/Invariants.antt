use Rattle.std.proofs.Common.{◌≡◌, map, take}
use Rattle.std.specs.List.{position_or_len}
use Rattle.driver_names.proofs.same_keys.firsts_of_few.Given as goal

abbrev pub invariant-loop-key : goal.invariant-loop-key
invariant-loop-key g l = l.firsts.items ≡ map (λ k. position_or_len (g.K.PartialEq.eq k) l.keys) (take l.key-index l.keys)
