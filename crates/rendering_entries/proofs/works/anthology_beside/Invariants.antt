use Rattle.std.proofs.Common.{◌≡◌, length, map}
use Rattle.literature_entries.specs.Views.{fields_view}
use Rattle.rendering_entries.specs.Works.{is_one_of, without_first, first_anthology}
use Rattle.rendering_entries.proofs.works.anthology_beside.Given as goal

abbrev pub invariant-loop-work : goal.invariant-loop-work
invariant-loop-work l = first_anthology (without_first (is_one_of l.containers) (map fields_view l.rest)) ≡ first_anthology (without_first (is_one_of l.containers) (map fields_view l.parents))

abbrev pub decreases-loop-work : goal.decreases-loop-work
decreases-loop-work l = length l.rest
