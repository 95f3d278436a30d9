use Rattle.std.proofs.Common.{◌≡◌, ◌++◌, map, take, drop}
use Rattle.std.specs.Prelude.{nat_lt}
use Rattle.std.specs.List.{list_any}
use Rattle.rendering_people.specs.Counts.{counted}
use Rattle.rendering_people.proofs.properties.show_at_least.Given as goal

abbrev pub invariant-loop-count : goal.invariant-loop-count
invariant-loop-count l =
    (l.counts ≡ map (counted l.num) (take l.count-index l.initial.counts) ++ drop l.count-index l.initial.counts)
    × (l.shows_more ≡ list_any (λ c. nat_lt c.shown (counted l.num c).shown) (take l.count-index l.initial.counts))
