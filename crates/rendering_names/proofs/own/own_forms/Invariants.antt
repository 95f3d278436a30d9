use Rattle.std.proofs.Common.{◌≡◌, map, take, replicate}
use Rattle.rendering_names.specs.Counts.{people_count}
use Rattle.rendering_people.specs.Views.{lent_answered_view}
use Rattle.rendering_names.proofs.own.own_forms.Given as goal

abbrev pub invariant-loop-answered : goal.invariant-loop-answered
invariant-loop-answered l = l.forms.items ≡ replicate (people_count (map lent_answered_view (take l.answered-index l.people))) l.form
