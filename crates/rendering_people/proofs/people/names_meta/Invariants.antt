use Rattle.std.proofs.Common.{◌≡◌, map, take}
use Rattle.rendering_tree.specs.Views.{answered_view}
use Rattle.rendering_people.specs.Views.{lent_answered_view}
use Rattle.rendering_people.proofs.people.names_meta.Given as goal

abbrev pub invariant-loop-answered : goal.invariant-loop-answered
invariant-loop-answered l = map answered_view l.names.items ≡ map lent_answered_view (take l.answered-index l.people)
