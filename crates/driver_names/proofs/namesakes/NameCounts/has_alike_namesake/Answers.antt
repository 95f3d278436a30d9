use Rattle.std.proofs.Common.{nat_lt}
use Rattle.driver_names.proofs.namesakes.NameCounts.has_alike_namesake.Goals as goal

pub returns : goal.returns
returns c = λ ms says.
    λ k. nat_lt (c.own_alike_namesakes.ensures ms says k) (c.alike_namesakes_within.ensures ms says k)
