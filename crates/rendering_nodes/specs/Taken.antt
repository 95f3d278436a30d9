-- The nodes of the branch that is taken.
use Rattle.std.specs.Prelude.{Bool, false, ◌||◌, if◌then◌else◌}
use Rattle.rendering_style.specs.Nodes.{Nodes, Branches, otherwise, branch}
use Rattle.rendering_context.specs.Contexts.{Context}
use Rattle.rendering_context.specs.Choosing.{is_met, asks_disambiguate}

-- the nodes, and whether the test `disambiguate` was evaluated on the way
abbrev pub TakenNodes : Type 0
TakenNodes = Nodes × Bool

-- the nodes of the first branch whose condition is met, or else the last; the flag says whether `disambiguate` was evaluated before
abbrev pub taken_after : Context → Bool → Branches → TakenNodes
taken_after c met (otherwise xs) = (xs, met)
taken_after c met (branch condition xs bs) =
    if is_met c condition
    then (xs, met || asks_disambiguate condition)
    else taken_after c (met || asks_disambiguate condition) bs

-- the nodes that a choose prints
abbrev pub taken : Context → Branches → TakenNodes
taken c bs = taken_after c false bs
