use Rattle.std.proofs.Common.{◌≡◌, drop}
use Rattle.rendering_people.specs.Views.{all_lent_answered_view}
use Rattle.rendering_names.specs.Roles.{people_with}
use Rattle.rendering_names.proofs.roles.people_with.Given as goal

abbrev pub invariant-loop-answered : goal.invariant-loop-answered
invariant-loop-answered l = people_with l.variable (all_lent_answered_view (drop l.answered-index l.people)) ≡ people_with l.variable (all_lent_answered_view l.people)
