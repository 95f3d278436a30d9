use Rattle.std.proofs.Common.{◌≡◌, [], map, replicate}
use Rattle.driver_disambiguation.proofs.classes.no_groups.Given as goal

abbrev pub invariant-loop-group : goal.invariant-loop-group
invariant-loop-group l = map (λ g. g.items) l.groups.items ≡ replicate l._group []
