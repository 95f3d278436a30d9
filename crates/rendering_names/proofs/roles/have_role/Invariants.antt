use Rattle.std.proofs.Common.{◌≡◌, drop}
use Rattle.std.specs.List.{list_any}
use Rattle.rendering_people.specs.Views.{all_lent_answered_view}
use Rattle.rendering_tree.specs.Metas.{Answered}
use Rattle.rendering_names.specs.Roles.{is_role}
use Rattle.rendering_names.proofs.roles.have_role.Given as goal

abbrev pub invariant-loop-answered : goal.invariant-loop-answered
invariant-loop-answered l =
    list_any (λ (a : Answered). is_role a.1) (all_lent_answered_view (drop l.answered-index l.people)) ≡ list_any (λ (a : Answered). is_role a.1) (all_lent_answered_view l.people)
