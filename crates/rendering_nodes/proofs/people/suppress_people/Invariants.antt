use Rattle.std.proofs.Common.{◌≡◌, drop}
use Rattle.rendering_people.specs.Views.{all_lent_answered_view}
use Rattle.rendering_nodes.specs.Content.{with_people_printed}
use Rattle.rendering_nodes.proofs.people.suppress_people.Given as goal

abbrev pub invariant-loop-answered : goal.invariant-loop-answered
invariant-loop-answered l =
    with_people_printed (all_lent_answered_view (drop l.answered-index l.people)) l.state
    ≡ with_people_printed (all_lent_answered_view l.people) l.initial.state
