use Rattle.std.proofs.Common.{◌≡◌}
use Rattle.std.specs.Cmp.Lexicographic.{pointwise}
use Rattle.rendering_people.specs.Views.{lent_people_view}
use Rattle.rendering_tree.specs.Metas.{is_person}
use Rattle.rendering_names.proofs.RolesSteps.{left_to_compare}
use Rattle.rendering_names.proofs.roles.are_same.Given as goal

abbrev pub invariant-loop-index : goal.invariant-loop-index
invariant-loop-index l = left_to_compare l.index l.people l.others ≡ pointwise is_person (lent_people_view l.people) (lent_people_view l.others)
